use Rattle.std.proofs.Common.{arith}
use Rattle.plan.proofs.Whole.{whole}
use Rattle.plan.proofs.planning.Input.write.Goals as goal

pub returns : goal.returns
returns g c =
    let h = c.hand_in_all.ensures in
    let pre = c.requires in
    whole c.args.window c.args.begin c.hand_in_all.result _ _ _ c.args.out.now _ _ h.after pre.begins h.end (omega (arith, h.end, pre.room)) (h.written (omega (arith, h.end, pre.room))) c.put_front.ensures
