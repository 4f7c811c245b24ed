use Rattle.std.proofs.Common.{length, ap, arith}
use Rattle.questions.proofs.Backward.{intervals_few, schedule_walk}
use Rattle.questions.proofs.Ends.{gives_in_reverse}
use Rattle.questions.proofs.schedule.Walk.over.Goals as goal

pub returns : goal.returns
returns g c =
    let law = g.S.Stream.lawful c.args.stream.now in
    record {
      intervals = schedule_walk c.args.window _ _ _ _ law.ordered c.of.ensures.documents c.end.ensures;
      few = omega (arith, intervals_few c.args.window c.end.result c.of.result, ap length c.of.ensures.documents, law.few);
      runs = gives_in_reverse;
    }
