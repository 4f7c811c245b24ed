-- What a line of a script says.
use Rattle.std.specs.Prelude.{ℕ, cond, List, [], ◌∷◌, length, Some, None, codes, Option, ◌==◌, nat_le}
use Rattle.std.specs.Str.{bytes_eq}
use Rattle.fields.specs.Faults.{Judged, good, bad}
use Rattle.fields.specs.Numbers.{number_field_of}
use Rattle.fields.specs.Parts.{Part, parts_at, first, rest}
use Rattle.documents.specs.declared.document.Document.{Document}
use Rattle.scripts.specs.declared.command.Start.{Start}
use Rattle.scripts.specs.declared.command.Start.TheVariants.{Live, Prepared}
use Rattle.scripts.specs.declared.command.Command.{Command}
use Rattle.scripts.specs.declared.command.Command.TheVariants.{Entry as EntryLine, Holder, Retimer, Take, Tick, Active, Interval, Text}
use Rattle.scripts.specs.Lines.{ScriptLine}

-- what follows if there is a value
abbrev pub and_then : {A B : Type 0} → Option A → (A → Option B) → Option B
and_then None f = None
and_then (Some x) f = f x

-- the value of a good field
abbrev pub if_good : {A : Type 0} → Judged A → Option A
if_good (good x) = Some x
if_good (bad n c) = None

-- a field that must be there and be a number
abbrev pub number_in : Option Part → Option ℕ
number_in None = None
number_in (Some p) = if_good (number_field_of 0 p.bytes)

-- a field that must be there and be a number or blank
abbrev pub optional_in : Option Part → Option (Option ℕ)
optional_in None = None
optional_in (Some p) = cond (length p.bytes == 0) (Some None) (and_then (if_good (number_field_of 0 p.bytes)) (λ n. Some (Some n)))

-- no field is left
abbrev pub only_at : {A : Type 0} → List Part → Option A → Option A
only_at [] o = o
only_at (p ∷ ps) o = None

-- fields that are nothing, one number, and three numbers
abbrev pub none_in : List Part → Option (Unit {0})
none_in ps = only_at ps (Some tt)

abbrev pub one_in : List Part → Option ℕ
one_in ps = only_at (rest ps) (number_in (first ps))

abbrev pub three_in : List Part → Option (ℕ × ℕ × ℕ)
three_in ps =
    and_then (number_in (first ps)) (λ a.
    and_then (number_in (first (rest ps))) (λ b.
    and_then (one_in (rest (rest ps))) (λ c.
    Some (a, b, c))))

-- the times of a document that may be blank: begin, end and dur
abbrev pub times_in : List Part → Option (Option ℕ × Option ℕ × Option ℕ)
times_in ps =
    and_then (optional_in (first ps)) (λ begin.
    and_then (optional_in (first (rest ps))) (λ end.
    and_then (optional_in (first (rest (rest ps)))) (λ dur.
    Some (begin, end, dur))))

-- number, available, begin, end, dur and content of a document
abbrev pub document_in : List Part → Option Document
document_in ps =
    and_then (number_in (first ps)) (λ number.
    and_then (number_in (first (rest ps))) (λ available.
    and_then (times_in (rest (rest ps))) (λ times.
    and_then (one_in (rest (rest (rest (rest (rest ps)))))) (λ content.
    Some (record { number = number; available = available; begin = times.0; end = times.1; dur = times.2; content = content })))))

-- the words that a line may begin with, and what its other fields are
abbrev pub said_by : List ℕ → List Part → Option Command
said_by word ps =
    cond (bytes_eq word (codes "entry")) (and_then (three_in ps) (λ n. Some (EntryLine (record { begin = n.0; end = n.1; content = n.2 }))))
    (cond (bytes_eq word (codes "holder")) (and_then (one_in ps) (λ n. Some (Holder n)))
    (cond (bytes_eq word (codes "retimer")) (and_then (one_in ps) (λ n. Some (Retimer n)))
    (cond (bytes_eq word (codes "take")) (and_then (document_in ps) (λ x. Some (Take x)))
    (cond (bytes_eq word (codes "tick")) (and_then (one_in ps) (λ n. Some (Tick n)))
    (cond (bytes_eq word (codes "active")) (and_then (three_in ps) (λ n. Some (Active n.0 n.1 n.2)))
    (cond (bytes_eq word (codes "interval")) (and_then (three_in ps) (λ n. Some (Interval n.0 n.1 n.2)))
    (cond (bytes_eq word (codes "text")) (and_then (none_in ps) (λ _. Some Text))
    None)))))))

-- the most records that a live table may be handed
abbrev pub most_records : ℕ
most_records = 65536

-- the first line: a live table over so many records, or a prepared list
abbrev pub start_by : List ℕ → List Part → Option Start
start_by word ps =
    cond (bytes_eq word (codes "live")) (and_then (one_in ps) (λ n. cond (nat_le n most_records) (Some (Live n)) None))
    (cond (bytes_eq word (codes "prepared")) (and_then (none_in ps) (λ _. Some Prepared))
    None)

-- a line by its first field and those after it
abbrev pub wordly : {A : Type 0} → (List ℕ → List Part → Option A) → List Part → Option A
wordly f [] = None
wordly f (p ∷ ps) = f p.bytes ps

-- what a line says: it must have its line feed, and its fields stand between commas
abbrev pub line_says : {A : Type 0} → (List ℕ → List Part → Option A) → ScriptLine → Option A
line_says f l = cond l.ended (wordly f (parts_at 44 0 l.bytes)) None

-- what the first line says
abbrev pub start_of : ScriptLine → Option Start
start_of l = line_says start_by l

-- what any other line says
abbrev pub command_of : ScriptLine → Option Command
command_of l = line_says said_by l
