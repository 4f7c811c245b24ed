use Rattle.std.proofs.Common.{◌≡◌, ◌-◌, ◌<◌, ◌≤◌, length, take, drop}
use Rattle.plan.specs.Pieces.{onto}
use Rattle.plan.specs.Cutting.{left_at}
use Rattle.plan.proofs.pieces.Pieces.piece_end.Given as goal

abbrev pub invariant-loop-place : goal.invariant-loop-place
invariant-loop-place l =
    (l.fn.self.place < l.place)
    × (l.place ≤ length l.input)
    × (left_at l.fn.self.place l.input ≡ onto l.fn.self.place (take (l.place - l.fn.self.place) (drop l.fn.self.place l.input)) (left_at l.place l.input))

abbrev pub decreases-loop-place : goal.decreases-loop-place
decreases-loop-place l = length l.input - l.place
