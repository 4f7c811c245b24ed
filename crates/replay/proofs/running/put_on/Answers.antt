use Rattle.std.proofs.lemmas.Result.{err_from_is_err_and}
use Rattle.scripts.specs.Commands.{command_of}
use Rattle.scripts.specs.Left.{line_of}
use Rattle.replay.specs.Readings.{node_in}
use Rattle.replay.proofs.Standings.{put_none, put_over}
use Rattle.replay.proofs.running.put_on.Goals as goal

pub returns-in_err-node : goal.returns-in_err-node
returns-in_err-node g c here more =
    let p = err_from_is_err_and c.from_residual.result c.from_residual.ensures.1 in
    put_none here more (g.S.Stream.parts c.args.bare.now) _ c.args.standing (node_in (command_of (line_of c.args.line))) c.over-stack.ensures.parts _ c.from_residual.result _ c.in_err-node.ensures p.1 p.2

pub returns : goal.returns
returns g c here more =
    put_over here more (g.S.Stream.parts c.args.bare.now) _ c.args.standing (node_in (command_of (line_of c.args.line))) c.over-stack.ensures.parts c.in_ok-node.node c.with.result c.ok_or.result c.in_ok-node.ensures c.with.ensures c.ok_or.ensures.value
