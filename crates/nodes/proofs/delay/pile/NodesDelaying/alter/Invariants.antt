use Rattle.std.proofs.Common.{◌≡◌, [], take}
use Rattle.nodes.specs.Delayings.{total_of, altered_of}
use Rattle.nodes.specs.Piles.{pile_nodes}
use Rattle.nodes.proofs.delay.pile.NodesDelaying.alter.Given as goal

abbrev pub invariant-loop-node : goal.invariant-loop-node
invariant-loop-node l =
    (l.total ≡ total_of (pile_nodes (take l.node-index l.node-items) []) l.below)
    × (l.x ≡ altered_of (pile_nodes (take l.node-index l.node-items) []) l.below l.initial.x)
