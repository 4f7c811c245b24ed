use Rattle.std.proofs.Common.{arith}
use Rattle.std.proofs.lemmas.Fmt.{length-decimal-le}
use Rattle.std.proofs.lemmas.List.{length-append}
use Rattle.times.proofs.Puts.{put_then}
use Rattle.plan.proofs.columns.put_field.Goals as goal

pub returns : goal.returns
returns c =
    let n = length-decimal-le 20 c.args.number (omega arith) (omega arith) (omega arith) in
    record { puts = put_then _ _ _ _ _ c.put_byte.ensures c.put_number.ensures; few = simp length-append (omega arith) }
