-- A written clock time and the moment that it names.
use Rattle.std.specs.Prelude.{◌≡◌, ℕ, ◌+◌, ◌-◌, ◌*◌, ◌/◌, ◌%◌, ◌≤◌, Bool, cond, ◌&&◌, List, [], ◌∷◌, length, Ok, Err, Result, ◌==◌, nat_le, slice_index}
use Rattle.times.specs.Refusals.{Outcome, refused, into}
use Rattle.times.specs.declared.clock.TimeFault.{TimeFault}
use Rattle.times.specs.declared.clock.TimeFault.TheVariants.{Length, Shape, Sixty, Limit}

-- the latest moment that may enter: 98:39:59.999
abbrev pub entry_limit : ℕ
entry_limit = 355199999

-- the latest moment that may be written or asked for: 99:59:59.999
abbrev pub last_moment : ℕ
last_moment = 359999999

-- what reading a time answers: the moment, or the number of the cause
pub data Reading : Type 0 where
  moment : ℕ → Reading
  cause : ℕ → Reading

-- the number of a time's fault
abbrev pub cause_of : TimeFault → ℕ
cause_of Length = 1
cause_of Shape = 2
cause_of Sixty = 3
cause_of Limit = 4

-- a result of reading, with its number
abbrev pub told : Result ℕ TimeFault → Reading
told (Ok m) = moment m
told (Err f) = cause (cause_of f)

-- the bytes of `0` to `9`
abbrev pub is_digit_of : ℕ → Bool
is_digit_of b = nat_le 48 b && nat_le b 57

-- twelve bytes look like `hh:mm:ss.fff`: digits, with 58 for a colon and 46 for a point
abbrev pub shaped : List ℕ → Bool
shaped t =
    is_digit_of (slice_index t 0) && (is_digit_of (slice_index t 1) && (slice_index t 2 == 58
    && (is_digit_of (slice_index t 3) && (is_digit_of (slice_index t 4) && (slice_index t 5 == 58
    && (is_digit_of (slice_index t 6) && (is_digit_of (slice_index t 7) && (slice_index t 8 == 46
    && (is_digit_of (slice_index t 9) && (is_digit_of (slice_index t 10) && is_digit_of (slice_index t 11)))))))))))

-- the number that two digits write
abbrev pub pair : ℕ → ℕ → ℕ
pair a b = 10 * (a - 48) + (b - 48)

abbrev pub hours : List ℕ → ℕ
hours t = pair (slice_index t 0) (slice_index t 1)

abbrev pub minutes : List ℕ → ℕ
minutes t = pair (slice_index t 3) (slice_index t 4)

abbrev pub seconds : List ℕ → ℕ
seconds t = pair (slice_index t 6) (slice_index t 7)

abbrev pub millis : List ℕ → ℕ
millis t = 100 * (slice_index t 9 - 48) + pair (slice_index t 10) (slice_index t 11)

-- the moment that twelve bytes name
abbrev pub moment_of : List ℕ → ℕ
moment_of t = 3600000 * hours t + (60000 * minutes t + (1000 * seconds t + millis t))

-- reading: the first cause that applies, else the moment
abbrev pub read_time_of : List ℕ → Reading
read_time_of t =
    cond (length t == 12)
    (cond (shaped t)
    (cond (nat_le (minutes t) 59 && nat_le (seconds t) 59)
    (cond (nat_le (moment_of t) entry_limit) (moment (moment_of t)) (cause 4))
    (cause 3))
    (cause 2))
    (cause 1)

-- the twelve bytes of a moment
abbrev pub time_text : ℕ → List ℕ
time_text m =
    (48 + m / 36000000) ∷ (48 + m / 3600000 % 10) ∷ 58 ∷
    (48 + m / 600000 % 6) ∷ (48 + m / 60000 % 10) ∷ 58 ∷
    (48 + m / 10000 % 6) ∷ (48 + m / 1000 % 10) ∷ 46 ∷
    (48 + m / 100 % 10) ∷ (48 + m / 10 % 10) ∷ (48 + m % 10) ∷ []

-- writing: 15 past the last moment, then 17 where there is no room
abbrev pub write_time_of : ℕ → List ℕ → Outcome ℕ
write_time_of m out = cond (nat_le m last_moment) (into (time_text m) out) (refused 15 out)

-- what is written up to the entry limit reads as the same moment, and what is read writes as the same bytes
abbrev pub RoundTrip : Type 0
RoundTrip = ((m : ℕ) → m ≤ entry_limit → read_time_of (time_text m) ≡ moment m) × ((t : List ℕ) (m : ℕ) → read_time_of t ≡ moment m → time_text m ≡ t)
