use Rattle.std.proofs.Common.{◌≡◌, ◌+◌, ◌++◌, length, None, vec_items}
use Rattle.replay.specs.Readings.{read_calls_of}
use Rattle.replay.specs.Replays.{call_lines, run_to}
use Rattle.replay.specs.Walks.{waiting}
use Rattle.replay.proofs.running.Run.run_calls.Given as goal

abbrev pub invariant-loop-self : goal.invariant-loop-self
invariant-loop-self g l =
    let input = l.initial.self.reading.script.text.now in
    let first = g.D.Stream.parts l.initial.beside.stack in
    let here = g.D.Stream.parts l.beside.stack in
    let all = read_calls_of input l.takes None (waiting l.initial.self.reading) in
    let more = read_calls_of input l.takes None (waiting l.self.reading) in
    (vec_items l.self.out.bytes ++ call_lines (l.self.out.count + 1) here more.calls ≡ vec_items l.initial.self.out.bytes ++ call_lines 1 first all.calls)
    × (run_to here more.calls ≡ run_to first all.calls)
    × (more.stops ≡ all.stops)
    × (l.self.reading.script.text ≡ l.initial.self.reading.script.text)

abbrev pub decreases-loop-self : goal.decreases-loop-self
decreases-loop-self g l = length (waiting l.self.reading)
