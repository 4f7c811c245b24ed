-- The schedule: when each document is on screen.
use Rattle.std.specs.Prelude.{◌≡◌, ℕ, ◌<◌, ◌≤◌, cond, ◌⊎◌, List, [], ◌∷◌, nat_lt}
use Rattle.documents.specs.declared.document.Document.{Document}
use Rattle.questions.specs.declared.window.Window.{Window}
use Rattle.questions.specs.declared.schedule.Interval.{Interval}
use Rattle.questions.specs.Resolved.{resolved_begin_of, resolved_end_of}

-- a document's interval in a window, among the documents shown
abbrev pub interval_of : Window → List Document → Document → Interval
interval_of w shown d = record { number = d.number; begin = resolved_begin_of w d; end = resolved_end_of w shown d; content = d.content }

-- of some documents of a shown list, those whose resolved begin lies before their resolved end
abbrev pub listed : Window → List Document → List Document → List Interval
listed w shown [] = []
listed w shown (d ∷ ds) = cond (nat_lt (resolved_begin_of w d) (resolved_end_of w shown d)) (interval_of w shown d ∷ listed w shown ds) (listed w shown ds)

-- the schedule of a shown list
abbrev pub schedule_of : Window → List Document → List Interval
schedule_of w shown = listed w shown shown

-- Laws of a schedule, in words of its own.

infix 40 ◌∈◌
-- a document stands in a list
abbrev pub ◌∈◌ : Document → List Document → Type 0
d ∈ [] = ⊥
d ∈ (e ∷ es) = (d ≡ e) ⊎ (d ∈ es)

-- each of some intervals has a number above n and begins at k or later
abbrev pub Follow : ℕ → ℕ → List Interval → Type 0
Follow n k [] = Unit {0}
Follow n k (i ∷ is) = (n < i.number) × (k ≤ i.begin) × Follow n k is

-- an interval lies in the window, its document is shown, and at every moment of the interval that document
-- is begun and no greater number is
pub record OnScreen (w : Window) (shown : List Document) (i : Interval) : Type 0 where
  pub after : w.begin ≤ i.begin
  pub before : i.end ≤ w.end
  pub document : Document
  pub among : document ∈ shown
  pub number : document.number ≡ i.number
  pub content : document.content ≡ i.content
  pub begun : (t : ℕ) → i.begin ≤ t → resolved_begin_of w document ≤ t
  pub greatest : (t : ℕ) → i.begin ≤ t → t < i.end → (e : Document) → e ∈ shown → resolved_begin_of w e ≤ t → e.number ≤ i.number

-- the intervals are not empty, rise in number, follow each other in time without overlapping, and each
-- has the greatest number begun at every one of its moments
abbrev pub Timetable : Window → List Document → List Interval → Type 0
Timetable w shown [] = Unit {0}
Timetable w shown (i ∷ is) = (i.begin < i.end) × Follow i.number i.end is × OnScreen w shown i × Timetable w shown is
