use Rattle.std.proofs.Common.{◌≡◌, ◌+◌, length}
use Rattle.scripts.specs.Lines.{skip_blank_of}
use Rattle.scripts.specs.Left.{lines_left}
use Rattle.scripts.proofs.lines.Script.next_line.Given as goal

abbrev pub invariant-loop-line : goal.invariant-loop-line
invariant-loop-line l =
    (skip_blank_of (lines_left l.self) ≡ skip_blank_of (lines_left l.initial.self))
    × (l.self.text ≡ l.initial.self.text)
    × (l.self.number + length (lines_left l.self) ≡ l.initial.self.number + length (lines_left l.initial.self))

abbrev pub decreases-loop-line : goal.decreases-loop-line
decreases-loop-line l = length (lines_left l.self)
