-- What a live table means, and what the records hold that it was lent.
use Rattle.std.specs.Prelude.{ℕ, ◌-◌, min, cond, List, length, take, Some, ◌==◌, slice_set}
use Rattle.documents.specs.declared.document.Document.{Document}
use Rattle.streams.specs.Streams.{Parts, most_shown}
use Rattle.streams.specs.Taking.{take_refusal}

-- how many of the lent records a table uses
abbrev pub usable : List Document → ℕ
usable xs = min (length xs) most_shown

-- the parts of a live table that uses n of the records xs, at the entry moment m: it shows these n, its
-- settled moment is its entry moment, nothing is delayed, and a document appears as itself
abbrev pub table_parts : ℕ → List Document → ℕ → Parts
table_parts n xs m = record {
  shown = take n xs;
  settled = m;
  total = 0;
  entry = Some (record { moment = m; left = usable xs - n; appearance = λ x. x });
}

-- the lent records after a take: the first unused one holds the document, unless it was refused
abbrev pub records_after : ℕ → List Document → ℕ → Document → List Document
records_after n xs m x = cond (take_refusal (table_parts n xs m) x == 0) (slice_set xs n x) xs
