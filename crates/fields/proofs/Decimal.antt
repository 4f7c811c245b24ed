-- The digits of a number, one more or none left: no proof here cites these lemmas; proofs of a host's own may.
use Rattle.std.proofs.Common.{◌≡◌, ℕ, ◌+◌, ◌-◌, ◌*◌, ◌^◌, ◌<◌, ◌≤◌, true, false, cond, leb, List, length, get_or, drop, Some, None, pow-suc, add-one, arith}
use Rattle.std.proofs.lemmas.Bool.{leb-true, and_parts}
use Rattle.std.proofs.lemmas.List.{at_drop_more, at_drop_all}
use Rattle.times.specs.Clock.{is_digit_of}
use Rattle.fields.specs.Numbers.{digits_from}

module _ (a i : ℕ) (bs : List ℕ) where
  pub digit-more : i < length bs → is_digit_of (get_or bs i 0) ≡ true → digits_from a (drop i bs) ≡ digits_from (10 * a + (get_or bs i 0 - 48)) (drop (i + 1) bs)
  digit-more l d =
      let e : digits_from a (drop i bs) ≡ cond (is_digit_of (get_or bs i 0)) (digits_from (10 * a + (get_or bs i 0 - 48)) (drop (i + 1) bs)) None = at_drop_more (digits_from a) bs i 0 l in
      simp d at e

  pub digit_not : i < length bs → is_digit_of (get_or bs i 0) ≡ false → digits_from a (drop i bs) ≡ None
  digit_not l d =
      let e : digits_from a (drop i bs) ≡ cond (is_digit_of (get_or bs i 0)) (digits_from (10 * a + (get_or bs i 0 - 48)) (drop (i + 1) bs)) None = at_drop_more (digits_from a) bs i 0 l in
      simp d at e

  pub digit-all : length bs ≤ i → digits_from a (drop i bs) ≡ Some a
  digit-all l = at_drop_all (digits_from a) bs i l

-- one digit more keeps the number below the next power of ten
pub power_more : (t i b : ℕ) → t < 10 ^ i → is_digit_of b ≡ true → 10 * t + (b - 48) < 10 ^ (i + 1)
power_more t i b l d =
    let u = leb-true b 57 (and_parts (leb 48 b) (leb b 57) d).1 in
    rw (add-one, pow-suc 10 i) (omega arith)
