use Rattle.std.proofs.Common.{false, [], vec_items, ap, ◌∙◌}
use Rattle.std.proofs.lemmas.Result.{on_ok_weaker}
use Rattle.stacks.specs.Still.{still}
use Rattle.replay.specs.Readings.{read_nodes_of}
use Rattle.replay.specs.Walks.{waiting}
use Rattle.replay.proofs.Runs.{noded, still_piled}
use Rattle.replay.proofs.running.Run.run_asked.Goals as goal

pub returns : goal.returns
returns g c =
    let r = c.args.self.now.reading in
    let r' = c.read_nodes.new.self.reading in
    let bare = g.S.Stream.parts c.args.bare.now in
    let n = c.in_ok-nodes.ensures in
    on_ok_weaker c.run_stack.result (noded r.script.text.now r'.script.text.now false bare _ (read_nodes_of bare [] (waiting r)) (waiting r') c.in_ok-nodes.nodes (vec_items c.args.self.now.out.bytes) (vec_items c.read_nodes.new.self.out.bytes) (vec_items c.run_stack.new.self.out.bytes)
    n.replies n.standing n.rest (c.over-stack.ensures.parts ∙ ap still c.over.ensures.parts ∙ still_piled c.in_ok-nodes.nodes bare c.requires) (ap (λ t. t.now) n.text))
    c.run_stack.ensures
