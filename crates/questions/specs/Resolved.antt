-- Windows, and when a document begins and ends in one.
use Rattle.std.specs.Prelude.{ℕ, ◌+◌, min, max, cond, ◌&&◌, List, [], ◌∷◌, Some, None, Ok, Err, Option, Result, nat_le, nat_lt}
use Rattle.times.specs.declared.refusal.Refusal.{Refusal}
use Rattle.times.specs.Refusals.{number_of}
use Rattle.times.specs.Clock.{last_moment}
use Rattle.documents.specs.declared.document.Document.{Document}
use Rattle.streams.specs.Streams.{due}
use Rattle.questions.specs.declared.window.Window.{Window}

-- what making a window answers: its begin and end, or the number of the refusal
pub data Opening : Type 0 where
  opened : ℕ → ℕ → Opening
  refused : ℕ → Opening

abbrev pub told_window : Result Window Refusal → Opening
told_window (Ok w) = opened w.begin w.end
told_window (Err e) = refused (number_of e)

-- a window begins before its end, which is up to the last moment; any other is 14
abbrev pub window_for : ℕ → ℕ → Opening
window_for begin end = cond (nat_lt begin end && nat_le end last_moment) (opened begin end) (refused 14)

-- the earlier of a moment and another, if there is one
abbrev pub earlier_of : ℕ → Option ℕ → ℕ
earlier_of a None = a
earlier_of a (Some b) = min a b

-- a moment a duration later, if there is a duration
abbrev pub plus : ℕ → Option ℕ → Option ℕ
plus k None = None
plus k (Some x) = Some (k + x)

-- the latest of available, begin if any, and the window's begin
abbrev pub resolved_begin_of : Window → Document → ℕ
resolved_begin_of w d = max (due d) w.begin

-- the earliest of the window's end, end if any, and resolved begin plus dur if any
abbrev pub own_end_of : Window → Document → ℕ
own_end_of w d = earlier_of (earlier_of w.end d.end) (plus (resolved_begin_of w d) d.dur)

-- the earlier of its own end and the least resolved begin among greater numbers
abbrev pub resolved_end_of : Window → List Document → Document → ℕ
resolved_end_of w [] d = own_end_of w d
resolved_end_of w (e ∷ shown) d =
    cond (nat_lt d.number e.number) (min (resolved_begin_of w e) (resolved_end_of w shown d)) (resolved_end_of w shown d)
