use Rattle.std.proofs.Common.{arith}
use Rattle.plan.proofs.Whole.{names_after}
use Rattle.plan.proofs.planning.Input.measure.Goals as goal

pub returns : goal.returns
returns g c =
    let h = c.hand_in_all-refused.ensures in
    let t = c.text_length.ensures in
    record {
      begins = names_after c.args.window c.text_length.result _ _ t.value h.after;
      ends = omega (arith, h.end);
      first = omega (arith, t.bound);
      bound = omega (arith, t.bound, h.bound);
    }
