use Rattle.std.proofs.Common.{refl, arith}
use Rattle.std.proofs.lemmas.Fmt.{decimal_digit, decimal_step}
use Rattle.times.proofs.Puts.{same_start, same_more, same_last}
use Rattle.times.proofs.put.BackWriter.put_number.Goals as goal

pub loop-left-init : goal.loop-left-init
loop-left-init c = (omega arith, same_start _ _ _ refl)

pub loop-left-preserved : goal.loop-left-preserved
loop-left-preserved c =
    (omega arith, same_more _ _ _ _ _ _ _ (decimal_step c.loop-left.left (omega arith) (omega arith)) c.put_byte.ensures c.loop-left.invariant.1)

pub returns : goal.returns
returns c = same_last _ _ _ _ _ _ (decimal_digit c.loop-left.left (omega arith)) c.put_byte-2.ensures c.loop-left.invariant.1
