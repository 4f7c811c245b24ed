use Rattle.std.proofs.Common.{◌≡◌, ℕ, true, List, get_or}
use Rattle.std.proofs.lemmas.Bool.{and_parts, eqb-true}
use Rattle.times.specs.Clock.{is_digit_of, shaped}

-- which places of a shaped text hold digits
pub record Digits (t : List ℕ) : Type 0 where
  pub d0 : is_digit_of (get_or t 0 0) ≡ true
  pub d1 : is_digit_of (get_or t 1 0) ≡ true
  pub d3 : is_digit_of (get_or t 3 0) ≡ true
  pub d4 : is_digit_of (get_or t 4 0) ≡ true
  pub d6 : is_digit_of (get_or t 6 0) ≡ true
  pub d7 : is_digit_of (get_or t 7 0) ≡ true
  pub d9 : is_digit_of (get_or t 9 0) ≡ true
  pub d10 : is_digit_of (get_or t 10 0) ≡ true
  pub d11 : is_digit_of (get_or t 11 0) ≡ true
  pub c2 : get_or t 2 0 ≡ 58
  pub c5 : get_or t 5 0 ≡ 58
  pub c8 : get_or t 8 0 ≡ 46

pub digits : (t : List ℕ) → shaped t ≡ true → Digits t
digits t h =
    let p0 = and_parts _ _ h in
    let p1 = and_parts _ _ p0.1 in
    let p2 = and_parts _ _ p1.1 in
    let p3 = and_parts _ _ p2.1 in
    let p4 = and_parts _ _ p3.1 in
    let p5 = and_parts _ _ p4.1 in
    let p6 = and_parts _ _ p5.1 in
    let p7 = and_parts _ _ p6.1 in
    let p8 = and_parts _ _ p7.1 in
    let p9 = and_parts _ _ p8.1 in
    let p10 = and_parts _ _ p9.1 in
    record { d0 = p0.0; d1 = p1.0; d3 = p3.0; d4 = p4.0; d6 = p6.0; d7 = p7.0; d9 = p9.0; d10 = p10.0; d11 = p10.1; c2 = eqb-true _ _ p2.0; c5 = eqb-true _ _ p5.0; c8 = eqb-true _ _ p8.0 }
