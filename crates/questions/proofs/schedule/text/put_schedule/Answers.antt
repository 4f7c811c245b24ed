use Rattle.std.proofs.Common.{ap}
use Rattle.times.proofs.Puts.{same_more, same_last}
use Rattle.questions.specs.Texts.{intervals_text}
use Rattle.questions.proofs.Lines.{text_pushed}
use Rattle.questions.proofs.schedule.text.put_schedule.Goals as goal

pub loop-interval-preserved : goal.loop-interval-preserved
loop-interval-preserved g c =
    same_more _ _ _ _ _ _ _ (text_pushed _ _ c.in-Some.interval c.in-Some.ensures.steps) c.put_line.ensures c.loop-interval.invariant

pub returns : goal.returns
returns g c =
    same_last _ _ _ _ _ _ (ap intervals_text c.in-None.ensures.steps.0) c.put_bytes.ensures c.loop-interval.invariant
