use Rattle.std.proofs.Common.{◌≤◌, length}
use Rattle.plan.proofs.input.read_input.Given as goal

abbrev pub invariant-loop-source : goal.invariant-loop-source
invariant-loop-source g l = length l.rest ≤ l.room

abbrev pub decreases-loop-source : goal.decreases-loop-source
decreases-loop-source g l = length l.rest
