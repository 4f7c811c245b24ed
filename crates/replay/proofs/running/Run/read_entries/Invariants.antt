use Rattle.std.proofs.Common.{◌≡◌, ◌++◌, length, vec_items}
use Rattle.replay.specs.Readings.{read_entries_of}
use Rattle.replay.specs.Walks.{waiting}
use Rattle.replay.proofs.running.Run.read_entries.Given as goal

abbrev pub invariant-loop-entry : goal.invariant-loop-entry
invariant-loop-entry l =
    let all = read_entries_of (waiting l.initial.self.reading) in
    let more = read_entries_of (waiting l.self.reading) in
    (vec_items l.entries ++ more.entries ≡ vec_items l.initial.entries ++ all.entries)
    × (more.rest ≡ all.rest)
    × (l.self.reading.script.text ≡ l.initial.self.reading.script.text)
    × (l.self.out ≡ l.initial.self.out)

abbrev pub decreases-loop-entry : goal.decreases-loop-entry
decreases-loop-entry l = length (waiting l.self.reading)
