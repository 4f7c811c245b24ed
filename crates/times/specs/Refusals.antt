-- The fixed number of each refusal, and what a call that fills an output answers and leaves.
use Rattle.std.specs.Prelude.{ℕ, cond, List, ◌++◌, length, drop, Ok, Err, Result, Some, None, Option, nat_le}
use Rattle.times.specs.declared.refusal.Refusal.{Refusal}
use Rattle.times.specs.declared.refusal.Refusal.TheVariants.{NotAText, NamesLine, FieldCount, NotANumber, NotATime, LevelOutOfPlace, PastEntryLimit, BeforeEntryMoment, NumberNotAboveLast, NoRecordLeft, TickPastEntryLimit, AdjustmentTooLarge, TotalTooLarge, NotAWindow, PastLastMoment, NumberNotShown, OutputTooShort, NotPrepared}

-- the number of a refusal
abbrev pub number_of : Refusal → ℕ
number_of NotAText = 1
number_of NamesLine = 2
number_of FieldCount = 3
number_of NotANumber = 4
number_of NotATime = 5
number_of LevelOutOfPlace = 6
number_of PastEntryLimit = 7
number_of BeforeEntryMoment = 8
number_of NumberNotAboveLast = 9
number_of NoRecordLeft = 10
number_of TickPastEntryLimit = 11
number_of AdjustmentTooLarge = 12
number_of TotalTooLarge = 13
number_of NotAWindow = 14
number_of PastLastMoment = 15
number_of NumberNotShown = 16
number_of OutputTooShort = 17
number_of NotPrepared = 18

-- the number of the refusal that a call answers, 0 where it does not refuse
abbrev pub refusal_in : {A : Type 0} → Result A Refusal → ℕ
refusal_in (Ok x) = 0
refusal_in (Err e) = number_of e

-- the number of a refusal, 0 where there is none
abbrev pub refusal_number : Option Refusal → ℕ
refusal_number None = 0
refusal_number (Some e) = number_of e

-- what a call that fills an output answers, with all that the output then holds
pub data Outcome (A : Type 0) : Type 0 where
  wrote : ℕ → List A → Outcome A
  refused : ℕ → List A → Outcome A

-- a result and the output after it, as such an answer
abbrev pub outcome : {A : Type 0} → Result ℕ Refusal → List A → Outcome A
outcome (Ok n) after = wrote n after
outcome (Err e) after = refused (number_of e) after

-- `xs` goes to the front of an output that has room, and the rest of it is kept; else 17, and all is kept
abbrev pub into : {A : Type 0} → List A → List A → Outcome A
into xs out = cond (nat_le (length xs) (length out)) (wrote (length xs) (xs ++ drop (length xs) out)) (refused 17 out)
