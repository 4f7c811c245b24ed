use Rattle.std.proofs.Common.{◌≡◌, ◌≤◌, drop}
use Rattle.streams.specs.Prepared.{ordered}
use Rattle.streams.proofs.prepared.is_prepared.Given as goal

abbrev pub invariant-loop-i : goal.invariant-loop-i
invariant-loop-i l = (l.i ≤ 4096) × (ordered l.last (drop l.i l.entries) ≡ ordered 0 l.entries)
