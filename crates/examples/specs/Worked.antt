-- Worked examples: one table of what is asked and what is answered, worked out by hand, and what it means
-- that a row of it holds. Rows are over the definitions that the contracts of the crates below cite.
use Rattle.std.specs.Prelude.{◌≡◌, ℕ, Bool, true, false, List, [], ◌∷◌, ◌++◌, replicate, Some, None, codes, ◌≢◌}
use Rattle.times.specs.Clock.{Reading, moment, cause, read_time_of}
use Rattle.fields.specs.Faults.{Told, fine}
use Rattle.documents.specs.declared.document.Document.{Document}
use Rattle.documents.specs.Reading.{read_document_of}
use Rattle.streams.specs.Streams.{Parts}
use Rattle.streams.specs.Taking.{take_refusal, after_take}
use Rattle.streams.specs.Tables.{table_parts}
use Rattle.streams.specs.Stacks.{Delay, holding, retiming, stack}
use Rattle.questions.specs.declared.window.Window.{Window}
use Rattle.questions.specs.declared.schedule.Interval.{Interval}
use Rattle.questions.specs.Resolved.{Opening, opened, window_for}
use Rattle.questions.specs.Schedules.{schedule_of}
use Rattle.questions.specs.Asking.{Answer, active, interval, active_of, interval_of}

-- the lines of a text, each with its line feed
abbrev pub lines : List (List ℕ) → List ℕ
lines [] = []
lines (l ∷ ls) = l ++ (10 ∷ lines ls)

-- a text of seven lines, with times at four levels
abbrev pub levels : List ℕ
levels =
    lines (codes "number,available,content,dur"
    ∷ codes "7,00:00:10.000,12,"
    ∷ codes "level,begin,end"
    ∷ codes "body,,"
    ∷ codes "div,00:00:11.000,"
    ∷ codes "p,00:00:01.000,00:00:04.000"
    ∷ codes "span,,00:00:05.000" ∷ [])

-- a record that holds no document yet
abbrev pub blank : Document
blank = record { number = 0; available = 0; begin = None; end = None; dur = None; content = 0 }

abbrev pub one : Document
one = record { number = 1; available = 0; begin = None; end = None; dur = None; content = 11 }

abbrev pub two : Document
two = record { number = 2; available = 5000; begin = None; end = None; dur = Some 3000; content = 12 }

abbrev pub three : Document
three = record { number = 3; available = 6000; begin = Some 12000; end = Some 15000; dur = None; content = 13 }

-- one that has ended before it is available
abbrev pub four : Document
four = record { number = 4; available = 10000; begin = None; end = Some 9000; dur = None; content = 14 }

-- one whose begin has passed when it is available, and the same with the begin that it gets
abbrev pub late : Document
late = record { number = 5; available = 10000; begin = Some 5000; end = None; dur = None; content = 15 }

abbrev pub retimed_late : Document
retimed_late = record { number = 5; available = 10000; begin = Some 13000; end = None; dur = None; content = 15 }

-- a live table over 64 lent records: any number from 4 on gives the same answers
abbrev pub empty : Parts
empty = table_parts 0 (replicate 64 blank) 0

-- documents taken one after another
abbrev pub taken_all : Parts → List Document → Parts
taken_all p [] = p
taken_all p (d ∷ ds) = taken_all (after_take p d) ds

-- the table with three documents, with four, and with three under a retimer over a holder
abbrev pub of_three : Parts
of_three = taken_all empty (one ∷ two ∷ three ∷ [])

abbrev pub of_four : Parts
of_four = taken_all of_three (four ∷ [])

abbrev pub under_two : Parts
under_two = stack (retiming 3000 ∷ holding 2000 ∷ []) of_three

abbrev pub window : Window
window = record { begin = 0; end = 20000 }

-- that window, later by what the two nodes add
abbrev pub window_later : Window
window_later = record { begin = 5000; end = 25000 }

-- what is asked, and the answer
pub data Example : Type 0 where
  -- a clock time is read
  reads : List ℕ → Reading → Example
  -- a text is read
  carries : List ℕ → Told Document → Example
  -- a document is taken: the number of the refusal, or 0
  takes : Parts → Document → ℕ → Example
  -- a window is made from a begin to an end
  opens : ℕ → ℕ → Opening → Example
  -- which document is active in a window at a moment
  shows : Parts → Window → ℕ → Answer → Example
  -- when the document of a number is on screen in a window
  lasts : Parts → Window → ℕ → Answer → Example
  -- the schedule of a window
  lists : Parts → Window → List Interval → Example
  -- a document of this number is active in no window and at no moment
  hides : Parts → ℕ → Example
  -- what nodes over an empty table show of a document that is taken
  alters : List Delay → Document → Document → Example

-- an example holds
abbrev pub Holds : Example → Type 0
Holds (reads text r) = read_time_of text ≡ r
Holds (carries text r) = read_document_of text ≡ r
Holds (takes p d n) = take_refusal p d ≡ n
Holds (opens begin end r) = window_for begin end ≡ r
Holds (shows p w t a) = active_of p w t ≡ a
Holds (lasts p w n a) = interval_of p w n ≡ a
Holds (lists p w is) = schedule_of w p.shown ≡ is
Holds (hides p n) = (w : Window) (t content : ℕ) (settled : Bool) → active_of p w t ≢ active (Some (n, content)) settled
Holds (alters nodes d e) = (after_take (stack nodes empty) d).shown ≡ e ∷ []

-- all of them
abbrev pub table : List Example
table =
    -- the last time that may enter, and the next
    reads (codes "98:39:59.999") (moment 355199999)
    ∷ reads (codes "98:40:00.000") (cause 4)
    -- the div begins first; the span's end is cut to that of the p, 4 s after 11 s
    ∷ carries levels (fine (record { number = 7; available = 10000; begin = Some 11000; end = Some 15000; dur = None; content = 12 }))
    -- three documents, none refused
    ∷ takes empty one 0
    ∷ takes (taken_all empty (one ∷ [])) two 0
    ∷ takes (taken_all empty (one ∷ two ∷ [])) three 0
    ∷ opens 0 20000 (opened 0 20000)
    ∷ lasts of_three window 1 (interval 0 5000 true)
    ∷ lasts of_three window 2 (interval 5000 8000 false)
    ∷ lasts of_three window 3 (interval 12000 15000 false)
    ∷ shows of_three window 7999 (active (Some (2, 12)) false)
    ∷ shows of_three window 8000 (active None false)
    -- settled before the entry moment, open from it on
    ∷ shows of_three window 5999 (active (Some (2, 12)) true)
    ∷ shows of_three window 6000 (active (Some (2, 12)) false)
    -- the fourth never shows, and cuts the third before it begins
    ∷ takes of_three four 0
    ∷ hides of_four 3
    ∷ hides of_four 4
    ∷ lists of_four window (record { number = 1; begin = 0; end = 5000; content = 11 } ∷ record { number = 2; begin = 5000; end = 8000; content = 12 } ∷ [])
    -- a begin that has passed counts from available
    ∷ alters (retiming 3000 ∷ []) late retimed_late
    -- a retimer over a holder: all is later by 5,000
    ∷ opens 5000 25000 (opened 5000 25000)
    ∷ shows under_two window_later 10000 (active (Some (2, 12)) true)
    ∷ []
