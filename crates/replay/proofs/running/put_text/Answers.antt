use Rattle.std.proofs.Common.{rules}
use Rattle.replay.proofs.running.put_text.Goals as goal

pub returns : goal.returns
returns g c = let holds = c.put_schedule.ensures.holds in search (rules, holds)
