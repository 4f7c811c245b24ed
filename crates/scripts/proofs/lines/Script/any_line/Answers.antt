use Rattle.std.proofs.Common.{◌≡◌, ℕ, ◌+◌, ◌≤◌, true, List, [], ◌∷◌, length, sym, refl, ap, ◌∙◌, subst}
use Rattle.fields.specs.Parts.{Part}
use Rattle.fields.specs.Left.{left, part_of}
use Rattle.scripts.specs.Lines.{ScriptLine, lines_in, tail, last_only}
use Rattle.scripts.proofs.Ends.{past_last, no_line}
use Rattle.scripts.proofs.lines.Script.any_line.Goals as goal

pub returns-then-part-self : goal.returns-then-part-self
returns-then-part-self c =
    let s = c.args.self.now in
    let size : ℕ = length s.text.now in
    let p : Part = part_of c.in_ok-part.part in
    let ps : List Part = left c.next.new.self in
    let e : left s.lines ≡ p ∷ ps = c.in_ok-part.ensures.cases in
    let out : size ≤ p.offset = c.if-part-self.true in
    let none : ps ≡ [] = past_last size p ps (subst (λ (qs : List Part). last_only size qs ≡ true) e s.last) out in
    let before : lines_in size (s.number + 1) (left s.lines) ≡ [] = ap (lines_in size (s.number + 1)) e ∙ no_line size (s.number + 1) p ps out in
    let after : lines_in size (s.number + 1) ps ≡ [] = ap (lines_in size (s.number + 1)) none in
    record {
      cases = before;
      rest = after ∙ sym (ap tail before);
      text = refl;
      number = ap (λ (ls : List ScriptLine). s.number + length ls) (after ∙ sym before);
      inside = tt;
    }
