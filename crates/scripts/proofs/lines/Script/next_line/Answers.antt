use Rattle.std.proofs.Common.{◌≡◌, ◌+◌, length, ap, ◌∙◌, rules, arith}
use Rattle.fields.specs.Left.{left}
use Rattle.scripts.specs.Lines.{skip_blank_of, last_only}
use Rattle.scripts.specs.Left.{lines_left}
use Rattle.scripts.proofs.Blanks.{past_empty_last, blanks_past}
use Rattle.scripts.proofs.lines.Script.next_line.Goals as goal

pub invariant_of-self : goal.invariant_of-self
invariant_of-self c =
    let t = c.any_line.new.self in
    let size = length t.text.now in
    record {
      counted = omega (arith, t.counted, c.skip_empty.ensures.count);
      small = t.small;
      last = ap (last_only size) c.skip_empty.ensures.parts ∙ past_empty_last size (left t.lines) t.last;
    }

pub loop-line-smaller : goal.loop-line-smaller
loop-line-smaller c =
    let t = c.any_line.new.self in
    let past = blanks_past (length t.text.now) t.number c.skip_empty.result (left t.lines) (left c.skip_empty.new.self) t.last c.skip_empty.ensures.parts c.skip_empty.ensures.count in
    omega (arith, past.1, ap length c.in-Some.ensures.cases)

pub loop-line-preserved : goal.loop-line-preserved
loop-line-preserved c =
    let t = c.any_line.new.self in
    let past = blanks_past (length t.text.now) t.number c.skip_empty.result (left t.lines) (left c.skip_empty.new.self) t.last c.skip_empty.ensures.parts c.skip_empty.ensures.count in
    let before : skip_blank_of (lines_left t) ≡ skip_blank_of (lines_left c.args.self.now) = search rules in
    let count : t.number + length (lines_left t) ≡ c.args.self.now.number + length (lines_left c.args.self.now) = search rules in
    (past.0 ∙ before, search rules, omega (arith, past.1, count))
