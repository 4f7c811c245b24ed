-- What judging a field and reading a text answer, with the fixed numbers.
use Rattle.std.specs.Prelude.{ℕ, cond, List, length, Some, None, Ok, Err, Option, Result, ◌==◌}
use Rattle.times.specs.declared.refusal.Refusal.{Refusal}
use Rattle.times.specs.declared.refusal.Refusal.TheVariants.{NotANumber, NotATime, LevelOutOfPlace, PastEntryLimit}
use Rattle.times.specs.declared.clock.TimeFault.{TimeFault}
use Rattle.times.specs.Refusals.{number_of}
use Rattle.times.specs.Clock.{moment, cause, read_time_of, cause_of}
use Rattle.fields.specs.declared.fault.FieldFault.{FieldFault}
use Rattle.fields.specs.declared.fault.FieldFault.TheVariants.{Number, Time, Level, Limit}
use Rattle.fields.specs.declared.fault.PlacedFault.{PlacedFault}
use Rattle.fields.specs.declared.fault.Rejection.{Rejection}

-- what judging a field answers: a value, or a refusal's number and its time cause
pub data Judged (A : Type 0) : Type 0 where
  good : A → Judged A
  bad : ℕ → ℕ → Judged A

-- what reading a part of a text answers: a value, or a refusal's number, line, byte and time cause
pub data Told (A : Type 0) : Type 0 where
  fine : A → Told A
  refused : ℕ → ℕ → ℕ → ℕ → Told A

-- the refusal that a field's fault is
abbrev pub refusal_for : FieldFault → Refusal
refusal_for Number = NotANumber
refusal_for (Time t) = NotATime
refusal_for Level = LevelOutOfPlace
refusal_for Limit = PastEntryLimit

-- the time's fault in it
abbrev pub cause_for : FieldFault → Option TimeFault
cause_for Number = None
cause_for (Time t) = Some t
cause_for Level = None
cause_for Limit = None

-- the number of a time cause, 0 where there is none
abbrev pub cause_number_of : Option TimeFault → ℕ
cause_number_of None = 0
cause_number_of (Some f) = cause_of f

-- a fault at its place, as hand-in's record
abbrev pub rejection_of : PlacedFault → Rejection
rejection_of p = record { refusal = refusal_for p.fault; line = p.line; byte = p.offset; cause = cause_for p.fault }

-- a refusal that no line is to blame for, as hand-in's record
abbrev pub rejection_by : Refusal → Rejection
rejection_by e = record { refusal = e; line = 0; byte = 0; cause = None }

module _ {A : Type 0} where
  -- a field's result, with its numbers
  abbrev pub judged : Result A FieldFault → Judged A
  judged (Ok x) = good x
  judged (Err f) = bad (number_of (refusal_for f)) (cause_number_of (cause_for f))

  -- a text's result, with its numbers
  abbrev pub told : Result A Rejection → Told A
  told (Ok x) = fine x
  told (Err r) = refused (number_of r.refusal) r.line r.byte (cause_number_of r.cause)

  -- a judged field at its line and offset
  abbrev pub at : ℕ → ℕ → Judged A → Told A
  at line offset (good x) = fine x
  at line offset (bad n c) = refused n line offset c

  -- a field's result at its line and offset
  abbrev pub placed_as : ℕ → ℕ → Result A FieldFault → Result A PlacedFault
  placed_as line offset (Ok x) = Ok x
  placed_as line offset (Err f) = Err (record { line = line; offset = offset; fault = f })

-- one reading after another; the first refusal ends it
abbrev pub then : {A B : Type 0} → Told A → (A → Told B) → Told B
then (fine x) f = f x
then (refused n l o c) f = refused n l o c

-- a time that must be there
abbrev pub time_field_of : List ℕ → Judged ℕ
time_field_of bs = elim (read_time_of bs) [ moment m ↦ good m | cause k ↦ bad 5 k ]

abbrev pub present : Judged ℕ → Judged (Option ℕ)
present (good x) = good (Some x)
present (bad n c) = bad n c

-- a time that may be absent
abbrev pub optional_time_of : List ℕ → Judged (Option ℕ)
optional_time_of bs = cond (length bs == 0) (good None) (present (time_field_of bs))
