use Rattle.std.proofs.Common.{◌≡◌, ℕ, ◌+◌, ◌-◌, ◌*◌, ◌/◌, ◌%◌, ◌<◌, ◌≤◌, Bool, true, false, cond, ◌&&◌, eqb, leb, List, [], ◌∷◌, map, length, get_or, refl, arith}
use native.Mathlib.Nat.{div-div-eq-div-mul, add-sub_cancel_left}
use Rattle.std.proofs.lemmas.Bool.{and_parts, and_from, le-leb, leb-true, eqb-true}
use Rattle.std.proofs.lemmas.List.FromFn.{fill_by_all}
use Rattle.std.specs.List.{range_with_len}
use Rattle.times.proofs.Shape.{digits}
use Rattle.times.specs.Clock.{Reading, moment, cause, is_digit_of, shaped, read_time_of, time_text, moment_of, minutes, seconds, RoundTrip}

digit : (d : ℕ) → d < 10 → is_digit_of (48 + d) ≡ true
digit d h = and_from _ _ (le-leb 48 (48 + d) (omega arith)) (le-leb (48 + d) 57 (omega arith))

written_shape : (m : ℕ) → m ≤ 355199999 → shaped (time_text m) ≡ true
written_shape m h =
    simp (digit (m / 36000000) (omega arith), digit (m / 3600000 % 10) (omega arith), digit (m / 600000 % 6) (omega arith), digit (m / 60000 % 10) (omega arith), digit (m / 10000 % 6) (omega arith), digit (m / 1000 % 10) (omega arith), digit (m / 100 % 10) (omega arith), digit (m / 10 % 10) (omega arith), digit (m % 10) (omega arith))

written_moment : (m : ℕ) → m ≤ 355199999 → moment_of (time_text m) ≡ m
written_moment m h =
    simp add-sub_cancel_left (omega (arith, div-div-eq-div-mul m 10 10, div-div-eq-div-mul m 100 10, div-div-eq-div-mul m 1000 10, div-div-eq-div-mul m 10000 6, div-div-eq-div-mul m 60000 10, div-div-eq-div-mul m 600000 6, div-div-eq-div-mul m 3600000 10))

read_back : (m : ℕ) → m ≤ 355199999 → read_time_of (time_text m) ≡ moment m
read_back m h =
    let s = written_shape m h in
    let e = written_moment m h in
    let a : leb (minutes (time_text m)) 59 ≡ true = le-leb _ _ (omega arith) in
    let b : leb (seconds (time_text m)) 59 ≡ true = le-leb _ _ (omega arith) in
    let l : leb m 355199999 ≡ true = le-leb _ _ h in
    simp (s, a, b, e, l)

-- a test that was passed on the way to a moment
passed : (b : Bool) (x : Reading) (k m : ℕ) → cond b x (cause k) ≡ moment m → (b ≡ true) × (x ≡ moment m)
passed true x k m h = (refl, h)
passed false x k m h = let z : ◌≡◌ {A = ℕ} 0 1 = cc in absurd (omega arith)

same_moment : (a b : ℕ) → moment a ≡ moment b → a ≡ b
same_moment a b h = cc

twelve : (t : List ℕ) → length t ≡ 12 → t ≡ map (λ k. get_or t k 0) (range_with_len 0 12)
twelve t h = fill_by_all (λ k. get_or t k 0) t 12 0 h (λ k _. refl)

-- what a text that reads as m is known to be
record Reads (t : List ℕ) (m : ℕ) : Type 0 where
  long : length t ≡ 12
  shape : shaped t ≡ true
  sixty : (leb (minutes t) 59 && leb (seconds t) 59) ≡ true
  value : moment_of t ≡ m

reads : (t : List ℕ) (m : ℕ) → read_time_of t ≡ moment m → Reads t m
reads t m h =
    let x3 = cond (leb (moment_of t) 355199999) (moment (moment_of t)) (cause 4) in
    let x2 = cond (leb (minutes t) 59 && leb (seconds t) 59) x3 (cause 3) in
    let x1 = cond (shaped t) x2 (cause 2) in
    let p0 = passed (eqb (length t) 12) x1 1 m h in
    let p1 = passed (shaped t) x2 2 m p0.1 in
    let p2 = passed (leb (minutes t) 59 && leb (seconds t) 59) x3 3 m p1.1 in
    let p3 = passed (leb (moment_of t) 355199999) (moment (moment_of t)) 4 m p2.1 in
    record { long = eqb-true _ _ p0.0; shape = p1.0; sixty = p2.0; value = same_moment _ _ p3.1 }

-- a digit's byte is 48 and the digit
digit_of : (b : ℕ) → is_digit_of b ≡ true → (b ≡ 48 + (b - 48)) × (b - 48 < 10)
digit_of b h =
    let p = and_parts (leb 48 b) (leb b 57) h in
    let l = leb-true _ _ p.0 in
    let u = leb-true _ _ p.1 in
    (omega arith, omega arith)

-- the digits of a moment that digits make
module _ (a b c d e f g h i m : ℕ) (la : a < 10) (lb : b < 10) (lc : 10 * c + d ≤ 59) (ld : d < 10) (le : 10 * e + f ≤ 59) (lf : f < 10) (lg : g < 10) (lh : h < 10) (li : i < 10) (is : 3600000 * (10 * a + b) + (60000 * (10 * c + d) + (1000 * (10 * e + f) + (100 * g + (10 * h + i)))) ≡ m) where
  made-digits : time_text m ≡ (48 + a) ∷ (48 + b) ∷ 58 ∷ (48 + c) ∷ (48 + d) ∷ 58 ∷ (48 + e) ∷ (48 + f) ∷ 46 ∷ (48 + g) ∷ (48 + h) ∷ (48 + i) ∷ []
  made-digits =
      let ea : m / 36000000 ≡ a = omega arith in
      let eb : m / 3600000 % 10 ≡ b = omega arith in
      let ec : m / 600000 % 6 ≡ c = omega arith in
      let ed : m / 60000 % 10 ≡ d = omega arith in
      let ee : m / 10000 % 6 ≡ e = omega arith in
      let ef : m / 1000 % 10 ≡ f = omega arith in
      let eg : m / 100 % 10 ≡ g = omega arith in
      let eh : m / 10 % 10 ≡ h = omega arith in
      let ei : m % 10 ≡ i = omega arith in
      simp (ea, eb, ec, ed, ee, ef, eg, eh, ei)

write_back : (t : List ℕ) (m : ℕ) → read_time_of t ≡ moment m → time_text m ≡ t
write_back t m h =
    let r = reads t m h in
    let d = digits t r.shape in
    let s = and_parts (leb (minutes t) 59) (leb (seconds t) 59) r.sixty in
    let z0 = digit_of (get_or t 0 0) d.d0 in
    let z1 = digit_of (get_or t 1 0) d.d1 in
    let z3 = digit_of (get_or t 3 0) d.d3 in
    let z4 = digit_of (get_or t 4 0) d.d4 in
    let z6 = digit_of (get_or t 6 0) d.d6 in
    let z7 = digit_of (get_or t 7 0) d.d7 in
    let z9 = digit_of (get_or t 9 0) d.d9 in
    let z10 = digit_of (get_or t 10 0) d.d10 in
    let z11 = digit_of (get_or t 11 0) d.d11 in
    let made = made-digits _ _ _ _ _ _ _ _ _ m z0.1 z1.1 (leb-true _ _ s.0) z4.1 (leb-true _ _ s.1) z7.1 z9.1 z10.1 z11.1 r.value in
    let all = twelve t r.long in
    cc

pub round_trip : RoundTrip
round_trip = (read_back, write_back)
