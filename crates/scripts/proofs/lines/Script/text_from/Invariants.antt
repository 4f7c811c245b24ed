use Rattle.std.proofs.Common.{◌≡◌, length}
use Rattle.scripts.specs.Lines.{text_end, after_text}
use Rattle.scripts.specs.Left.{lines_left}
use Rattle.scripts.proofs.lines.Script.text_from.Given as goal

abbrev pub invariant-loop-line : goal.invariant-loop-line
invariant-loop-line l =
    (text_end (length l.initial.self.text.now) (lines_left l.self) ≡ text_end (length l.initial.self.text.now) (lines_left l.initial.self))
    × (after_text (lines_left l.self) ≡ after_text (lines_left l.initial.self))
    × (l.self.text ≡ l.initial.self.text)

abbrev pub decreases-loop-line : goal.decreases-loop-line
decreases-loop-line l = length (lines_left l.self)
