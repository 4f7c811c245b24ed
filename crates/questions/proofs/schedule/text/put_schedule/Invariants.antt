use Rattle.times.proofs.Puts.{SamePut}
use Rattle.questions.specs.Texts.{intervals_text, schedule_text_of}
use Rattle.questions.proofs.schedule.text.put_schedule.Given as goal

abbrev pub invariant-loop-interval : goal.invariant-loop-interval
invariant-loop-interval g l =
    SamePut (intervals_text l.interval-iterator) l.writer (schedule_text_of l.fn.window (g.S.Stream.parts l.stream).shown) l.initial.writer
