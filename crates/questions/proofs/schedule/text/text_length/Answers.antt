use Rattle.std.proofs.Common.{length, ap, arith}
use Rattle.std.proofs.lemmas.List.{length_push}
use Rattle.questions.proofs.Lines.{joined_length}
use Rattle.questions.proofs.schedule.text.text_length.Goals as goal

pub loop-listed-preserved : goal.loop-listed-preserved
loop-listed-preserved g c =
    let e = c.in-Some.ensures.steps in
    (omega (arith, ap length e, length_push c.next.new.self c.in-Some.listed), omega (arith, joined_length _ _ _ e, c.loop-listed.invariant.1))
