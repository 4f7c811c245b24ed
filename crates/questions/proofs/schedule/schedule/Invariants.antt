use Rattle.std.proofs.Common.{◌≡◌, ◌≤◌, ◌++◌, length, drop}
use Rattle.std.specs.Iterator.Adapters.{zip_first, zip_second, rev_source}
use Rattle.questions.specs.Schedules.{schedule_of}
use Rattle.questions.proofs.schedule.schedule.Given as goal

abbrev pub invariant-loop-place : goal.invariant-loop-place
invariant-loop-place g l =
    let places = rev_source (zip_first l.place-iterator) in
    let left = zip_second l.place-iterator in
    (goal.iterator-loop-place g).can_next l.place-iterator
    × (goal.iterator-loop-place g).is_finite l.place-iterator
    × (places.start ≡ 0)
    × (places.end ≡ length left)
    × (places.end ≤ length l.out)
    × (left ++ drop places.end l.out ≡ schedule_of l.fn.window (g.S.Stream.parts l.stream).shown ++ drop l.n l.initial.out)
