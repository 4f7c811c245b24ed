use Rattle.std.proofs.Common.{arith}
use Rattle.questions.proofs.Latest.{active_answer}
use Rattle.questions.proofs.asking.active.Goals as goal

pub returns : goal.returns
returns g c =
    let s = c.args.stream.now in
    active_answer (g.S.Stream.parts s) (g.S.Stream.lawful s) c.args.window c.args.moment c.last_begun-last.result c.unless_ended.result c.settled_moment.result (omega arith) c.last_begun-last.ensures c.unless_ended.ensures c.settled_moment.ensures
