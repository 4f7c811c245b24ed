use Rattle.std.proofs.Common.{◌≡◌, ◌+◌, ◌*◌, ◌≤◌, length}
use Rattle.std.specs.List.{flat_map}
use Rattle.questions.specs.Texts.{interval_text, schedule_text_of}
use Rattle.questions.proofs.schedule.text.text_length.Given as goal

abbrev pub invariant-loop-listed : goal.invariant-loop-listed
invariant-loop-listed g l =
    let left = l.listed-iterator in
    (l.n + 68 * length left ≤ 300000)
    × (l.n + length (flat_map interval_text left) ≡ length (schedule_text_of l.fn.window (g.S.Stream.parts l.stream).shown))
