-- The words of the scan for pieces, which only inner contracts cite.
use Rattle.std.specs.Prelude.{ℕ, suc, ◌-◌, not, cond, List, [], ◌∷◌, take, drop, ◌==◌}
use Rattle.std.specs.List.{position_or_len}
use Rattle.fields.specs.Parts.{Part}
use Rattle.plan.specs.Pieces.{lines_of, between}

-- how long the first line is, its line feed included
abbrev pub line_end_of : List ℕ → ℕ
line_end_of [] = 0
line_end_of (b ∷ bs) = cond (b == 10) 1 (suc (line_end_of bs))

-- how many line feeds stand in front
abbrev pub feeds_of : List ℕ → ℕ
feeds_of bs = position_or_len (λ b. not (b == 10)) bs

-- what stands between blank lines from a place on
abbrev pub left_at : ℕ → List ℕ → List Part
left_at place input = between place (lines_of (drop place input))

abbrev pub piece_at : ℕ → ℕ → List ℕ → Part
piece_at start end input = record { offset = start; bytes = take (end - start) (drop start input) }

abbrev pub empty_at : ℕ → Part
empty_at place = record { offset = place; bytes = [] }
