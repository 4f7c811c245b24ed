use Rattle.std.proofs.Common.{◌≡◌, ◌^◌, ◌<◌, drop}
use Rattle.fields.specs.Numbers.{digits_from}
use Rattle.fields.proofs.number.digits.Given as goal

abbrev pub invariant-loop-b : goal.invariant-loop-b
invariant-loop-b l = (l.total < 10 ^ l.b-index) × (digits_from l.total (drop l.b-index l.bytes) ≡ digits_from 0 l.bytes)
