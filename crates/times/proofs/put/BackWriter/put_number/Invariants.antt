use Rattle.std.proofs.Common.{◌≤◌, decimal}
use Rattle.times.proofs.Puts.{SamePut}
use Rattle.times.proofs.put.BackWriter.put_number.Given as goal

abbrev pub invariant-loop-left : goal.invariant-loop-left
invariant-loop-left l = (l.left ≤ l.number) × SamePut (decimal l.left) l.self (decimal l.number) l.initial.self

abbrev pub decreases-loop-left : goal.decreases-loop-left
decreases-loop-left l = l.left
