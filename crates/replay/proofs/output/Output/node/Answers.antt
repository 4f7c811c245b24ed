use Rattle.std.proofs.Common.{length, ap, rules, arith}
use Rattle.replay.proofs.Tails.{put_tail}
use Rattle.replay.proofs.output.Output.node.Goals as goal

pub returns : goal.returns
returns c =
    let tail = put_tail 128 _ _ _ c.new-writer.ensures.place (ap length c.new-writer.ensures.holds) (omega (arith, c.put_node.ensures.few)) c.put_node.ensures.puts in
    search (rules, tail)
