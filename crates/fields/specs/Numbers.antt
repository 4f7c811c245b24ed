-- A number written in decimal.
use Rattle.std.specs.Prelude.{ℕ, ◌+◌, ◌-◌, ◌*◌, cond, ◌&&◌, List, [], ◌∷◌, length, Some, None, Option, ◌==◌, nat_le, slice_index}
use Rattle.times.specs.Clock.{is_digit_of}
use Rattle.fields.specs.Faults.{Judged, good, bad}

-- the number that digits write after a number that is read so far
abbrev pub digits_from : ℕ → List ℕ → Option ℕ
digits_from a [] = Some a
digits_from a (b ∷ bs) = cond (is_digit_of b) (digits_from (10 * a + (b - 48)) bs) None

-- at least `low` and below 2 ^ 32
abbrev pub in_range : ℕ → Option ℕ → Judged ℕ
in_range low None = bad 4 0
in_range low (Some n) = cond (nat_le low n && nat_le n 4294967295) (good n) (bad 4 0)

abbrev pub number_field_of : ℕ → List ℕ → Judged ℕ
number_field_of low bs =
    cond (nat_le 1 (length bs) && nat_le (length bs) 10)
    (cond (nat_le 2 (length bs) && slice_index bs 0 == 48) (bad 4 0) (in_range low (digits_from 0 bs)))
    (bad 4 0)
