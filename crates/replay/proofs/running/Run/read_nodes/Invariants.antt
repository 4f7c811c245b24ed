use Rattle.std.proofs.Common.{◌≡◌, ◌+◌, [], ◌++◌, length, vec_items}
use Rattle.replay.specs.Readings.{read_nodes_of, delays_of}
use Rattle.replay.specs.Replays.{node_lines}
use Rattle.replay.specs.Walks.{waiting}
use Rattle.replay.proofs.running.Run.read_nodes.Given as goal

abbrev pub invariant-loop-self : goal.invariant-loop-self
invariant-loop-self g l =
    let bare = g.S.Stream.parts l.bare in
    let all = read_nodes_of bare [] (waiting l.initial.self.reading) in
    let more = read_nodes_of bare (delays_of l.standing) (waiting l.self.reading) in
    (vec_items l.self.out.bytes ++ node_lines (l.self.out.count + 1) more.replies ≡ vec_items l.initial.self.out.bytes ++ node_lines 1 all.replies)
    × (more.standing ≡ all.standing)
    × (more.rest ≡ all.rest)
    × (l.self.reading.script.text ≡ l.initial.self.reading.script.text)

abbrev pub decreases-loop-self : goal.decreases-loop-self
decreases-loop-self g l = length (waiting l.self.reading)
