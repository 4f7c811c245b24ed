-- The text of a schedule.
use Rattle.std.specs.Prelude.{ℕ, ◌+◌, List, [], ◌∷◌, ◌++◌, length, codes, decimal}
use Rattle.std.specs.List.{flat_map}
use Rattle.times.specs.Clock.{time_text}
use Rattle.documents.specs.declared.document.Document.{Document}
use Rattle.questions.specs.declared.window.Window.{Window}
use Rattle.questions.specs.declared.schedule.Interval.{Interval}
use Rattle.questions.specs.Schedules.{schedule_of}

-- the names line
abbrev pub schedule_names : List ℕ
schedule_names = codes "number,begin,end,content" ++ (10 ∷ [])

-- an interval's line: number, begin, end, content
abbrev pub interval_text : Interval → List ℕ
interval_text i = decimal i.number ++ (44 ∷ (time_text i.begin ++ (44 ∷ (time_text i.end ++ (44 ∷ (decimal i.content ++ (10 ∷ [])))))))

abbrev pub interval_length : Interval → ℕ
interval_length i = length (decimal i.number) + length (decimal i.content) + 28

-- the names line, then a line for each interval
abbrev pub intervals_text : List Interval → List ℕ
intervals_text is = schedule_names ++ flat_map interval_text is

-- the text of the schedule of a shown list
abbrev pub schedule_text_of : Window → List Document → List ℕ
schedule_text_of w shown = intervals_text (schedule_of w shown)
