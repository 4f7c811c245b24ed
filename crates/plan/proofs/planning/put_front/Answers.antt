use Rattle.std.proofs.Common.{rules}
use Rattle.times.proofs.Puts.{put_then}
use Rattle.plan.proofs.planning.put_front.Goals as goal

pub returns : goal.returns
returns g c =
    let both = put_then _ _ _ _ _ c.put_bytes.ensures c.put_schedule.ensures in
    let holds = both.holds in
    search (rules, holds)
