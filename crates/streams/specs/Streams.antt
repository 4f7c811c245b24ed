-- What a stream means, and the laws that every stream keeps.
use Rattle.std.specs.Prelude.{◌≡◌, ℕ, ◌+◌, ◌≤◌, max, Bool, true, ◌&&◌, List, [], ◌∷◌, length, Some, None, Option, nat_le, nat_lt}
use Rattle.times.specs.Clock.{entry_limit}
use Rattle.documents.specs.declared.document.Document.{Document}

-- the most documents that a stream shows
abbrev pub most_shown : ℕ
most_shown = 4096

-- the most by which a stream's documents are delayed in all
abbrev pub most_total : ℕ
most_total = 4800000

-- what a stream that takes documents has besides: the moment from which they may be available, how many
-- it still has records for, and how a document that is taken appears in the shown list
pub record Entry : Type 0 where
  pub moment : ℕ
  pub left : ℕ
  pub appearance : Document → Document

-- what a stream means: three parts, and three more where it takes documents
pub record Parts : Type 0 where
  -- the documents shown, by rising number
  pub shown : List Document
  -- before this moment no later document changes what is on screen
  pub settled : ℕ
  -- by how much the documents are delayed in all
  pub total : ℕ
  pub entry : Option Entry

-- an absent moment passes every limit
abbrev pub up_to : ℕ → Option ℕ → Bool
up_to limit (Some t) = nat_le t limit
up_to limit None = true

-- a document's times are within a limit, its dur within the entry limit
abbrev pub timely : ℕ → Document → Bool
timely limit x = nat_le x.available limit && (up_to limit x.begin && (up_to limit x.end && up_to entry_limit x.dur))

-- numbers rise strictly from above n, availabilities never fall from a on, and each document is timely
abbrev pub orderly : ℕ → ℕ → ℕ → List Document → Bool
orderly limit n a [] = true
orderly limit n a (x ∷ xs) = nat_lt n x.number && (nat_le a x.available && (timely limit x && orderly limit x.number x.available xs))

-- an appearance keeps number and content
abbrev pub Faithful : Option Entry → Type 0
Faithful (Some e) = (x : Document) → ((e.appearance x).number ≡ x.number) × ((e.appearance x).content ≡ x.content)
Faithful None = Unit {0}

-- the laws of a stream
pub record Lawful (p : Parts) : Type 0 where
  pub few : length p.shown ≤ most_shown
  pub ordered : orderly (entry_limit + p.total) 0 0 p.shown ≡ true
  pub capped : p.total ≤ most_total
  pub bounded : p.settled ≤ 360000000 + p.total
  pub faithful : Faithful p.entry

-- the later of a moment and another, if there is one
abbrev pub later_of : ℕ → Option ℕ → ℕ
later_of a (Some t) = max a t
later_of a None = a

-- the later of a document's available and begin
abbrev pub due : Document → ℕ
due x = later_of x.available x.begin
