use Rattle.std.proofs.Common.{rules}
use Rattle.nodes.proofs.Over.{timely_shown}
use Rattle.nodes.proofs.delay.delayed.DelayedStream.document_at.Goals as goal

pub alter-requires-clause-times : goal.alter-requires-clause-times
alter-requires-clause-times g c =
    let s = c.args.self.now.below in search (rules, timely_shown (g.S.Stream.parts s) (g.S.Stream.lawful s) c.args.place)
