use Rattle.std.proofs.Common.{◌≡◌, ℕ, ◌+◌, ◌^◌, ◌<◌, ◌≤◌, List, length, sym, refl, ap, ◌∙◌, subst, arith}
use Rattle.fields.specs.Parts.{parts}
use Rattle.fields.specs.Left.{left}
use Rattle.scripts.specs.Lines.{last_only, lines_in}
use Rattle.scripts.proofs.Ends.{parts_last, readable_few}
use Rattle.scripts.proofs.lines.Script.new.Goals as goal

pub invariant_of-result : goal.invariant_of-result
invariant_of-result c =
    let kept : List ℕ = c.readable-text.result.now in
    let few : length kept ≤ 1048576 = subst (λ (t : List ℕ). length t ≤ 1048576) (sym c.readable-text.ensures) (readable_few c.args.text.now) in
    let near : 0 + length kept < 2 ^ 63 = omega arith in
    let all : left c.new.result ≡ parts 10 0 kept = c.new.ensures.near near in
    record {
      counted = omega (arith, c.new.ensures.few);
      small = few;
      last = ap (last_only (length kept)) all ∙ parts_last 10 0 (length kept) kept (omega arith);
    }

pub returns : goal.returns
returns c =
    let kept : List ℕ = c.readable-text.result.now in
    let few : length kept ≤ 1048576 = subst (λ (t : List ℕ). length t ≤ 1048576) (sym c.readable-text.ensures) (readable_few c.args.text.now) in
    let near : 0 + length kept < 2 ^ 63 = omega arith in
    let all : left c.new.result ≡ parts 10 0 kept = c.new.ensures.near near in
    record { lines = ap (lines_in (length kept) 1) all ∙ ap (λ (t : List ℕ). lines_in (length t) 1 (parts 10 0 t)) c.readable-text.ensures; number = refl; text = c.readable-text.ensures }
