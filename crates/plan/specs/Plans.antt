-- What showplan prints, from the bytes that it reads.
use Rattle.std.specs.Prelude.{ℕ, ◌+◌, cond, List, [], ◌∷◌, ◌++◌, length, Some, codes, decimal, nat_le}
use Rattle.times.specs.Clock.{entry_limit}
use Rattle.fields.specs.Parts.{Part}
use Rattle.fields.specs.Faults.{Told, fine, refused}
use Rattle.documents.specs.declared.document.Document.{Document}
use Rattle.streams.specs.Streams.{Parts}
use Rattle.streams.specs.Handing.{hand_in_told, hand_in_after}
use Rattle.questions.specs.declared.window.Window.{Window}
use Rattle.questions.specs.Texts.{schedule_text_of}
use Rattle.plan.specs.Pieces.{pieces_of}

-- the longest input
abbrev pub input_limit : ℕ
input_limit = 65536

-- how many records the live table has
abbrev pub table_records : ℕ
table_records = 256

-- a live table that nothing was handed in to
abbrev pub empty_table : ℕ → Parts
empty_table n = record { shown = []; settled = 0; total = 0; entry = Some (record { moment = 0; left = n; appearance = λ x. x }) }

-- the window from 0 to the entry limit
abbrev pub entry_window : Window
entry_window = record { begin = 0; end = entry_limit }

-- a stream after pieces were handed in one after another
abbrev pub handed_in_of : Parts → List Part → Parts
handed_in_of p [] = p
handed_in_of p (x ∷ xs) = handed_in_of (hand_in_after p x.bytes) xs

-- the line of a piece, counted by k, that was refused: document, refusal, line, byte, cause
abbrev pub refusal_text : ℕ → Told (Unit {0}) → List ℕ
refusal_text k (fine x) = []
refusal_text k (refused n line byte cause) = decimal k ++ (44 ∷ (decimal n ++ (44 ∷ (decimal line ++ (44 ∷ (decimal byte ++ (44 ∷ (decimal cause ++ (10 ∷ [])))))))))

-- the lines of the refused ones among pieces that are handed in one after another, counted from k
abbrev pub refusals_text : ℕ → Parts → List Part → List ℕ
refusals_text k p [] = []
refusals_text k p (x ∷ xs) = refusal_text k (hand_in_told p x.bytes) ++ refusals_text (k + 1) (hand_in_after p x.bytes) xs

-- the names line of the refused pieces
abbrev pub refusal_names : List ℕ
refusal_names = codes "document,refusal,line,byte,cause" ++ (10 ∷ [])

-- the schedule, then the refused pieces
abbrev pub plan_text : Window → List Document → List ℕ → List ℕ
plan_text w shown refusals = (schedule_text_of w shown ++ refusal_names) ++ refusals

-- the plan of an input in a window, over a table of n records; a longer input is one refusal, by 1
abbrev pub plan_in : Window → ℕ → List ℕ → List ℕ
plan_in w n input =
    cond (nat_le (length input) input_limit)
    (plan_text w (handed_in_of (empty_table n) (pieces_of input)).shown (refusals_text 1 (empty_table n) (pieces_of input)))
    (plan_text w [] (refusal_text 0 (refused 1 0 0 0)))

-- what showplan prints
abbrev pub plan_of : List ℕ → List ℕ
plan_of input = plan_in entry_window table_records input
