use Rattle.std.proofs.Common.{codes, arith}
use Rattle.times.proofs.Puts.{put_then}
use Rattle.scripts.proofs.Columns.{few_front}
use Rattle.scripts.proofs.printing.put_unreadable.Goals as goal

pub returns : goal.returns
returns c =
    let a = c.put_field.ensures in
    record { puts = put_then _ _ _ _ _ a.puts c.put_bytes.ensures; few = few_front (codes "unreadable,") _ 11 21 (omega arith) a.few }
