-- Iterators over a list, from both ends.
use Rattle.std.proofs.Common.{◌≡◌, ℕ, zero, suc, ◌+◌, ◌<◌, ◌≤◌, true, false, List, [], ◌∷◌, ◌++◌, take, drop, length, Some, None, Option, sym, ap, ap₂, ◌∙◌, arith}
use Rattle.std.specs.List.{slice_get}
use Rattle.std.specs.Option.{is_some, option_to_list}
use Rattle.std.proofs.lemmas.List.{drop_more, take_more, length-take-le, get_or-take, drop-append-le, map-id, append-nil, length_push}
use Rattle.std.proofs.lemmas.Iterator.{YieldsList, items_from_drains}
use Rattle.std.proofs.lemmas.Option.{get_or_from_slice_get}
use Rattle.std.specs.Iterator.{Drains, MakesProgress, at_most}
use Rattle.std.specs.Iterator.Runs.{YieldsInOrder, YieldsInReverse}
use Rattle.std.specs.Map.Iter.{TakesFirst, TakesLast}
use Rattle.std.proofs.iter.runs.Sources.{from_front, from_back, as_is, as_is_back}

module _ {X : Type 0} where
  -- an iterator that is seen as the list of what is left gives that list
  pub gives_in_order : YieldsInOrder (TakesFirst (λ (x : X). x)) (λ s. s)
  gives_in_order p s = as_is p p.from (from_front (TakesFirst (λ (x : X). x)) (λ x. x) (λ s. s) (λ s t h. ap length h.0) (λ s x t h. h) p s)

  pub gives_in_reverse : YieldsInReverse (TakesLast (λ (x : X). x)) (λ s. s)
  gives_in_reverse p s = as_is_back p p.from (from_back (TakesLast (λ (x : X). x)) (λ x. x) (λ s. s) (λ s t h. ap length h.0) (λ s x t h. h) p s)

  past : (xs : List X) (i : ℕ) → None ≡ slice_get xs i → length xs ≤ i
  past [] i e = omega arith
  past (x ∷ xs) zero e = cc
  past (x ∷ xs) (suc i) e = omega (arith, past xs i e)

  -- the first of what lies between two places
  pub place_first : (xs : List X) (i j m n k : ℕ) (r : Option X) → i < j → j ≤ length xs → k ≡ i → m ≡ i + 1 → n ≡ j → r ≡ slice_get xs k
      → TakesFirst (λ (x : X). x) (drop i (take j xs)) r (drop m (take n xs))
  place_first xs i j m n k None lt le at next same e = absurd (omega (arith, past xs k e))
  place_first xs i j m n k (Some x) lt le at next same e =
      drop_more (take j xs) i x (omega (arith, length-take-le j xs le))
      ∙ ap (λ (y : X). y ∷ drop (i + 1) (take j xs)) (get_or-take j xs i x lt ∙ get_or_from_slice_get xs i x x (sym (e ∙ ap (slice_get xs) at)))
      ∙ ap₂ (λ a b. x ∷ drop a (take b xs)) (sym next) (sym same)

  -- and the last
  pub place_last : (xs : List X) (i j m n k : ℕ) (r : Option X) → i < j → j ≤ length xs → k ≡ n → m ≡ i → j ≡ n + 1 → r ≡ slice_get xs k
      → TakesLast (λ (x : X). x) (drop i (take j xs)) r (drop m (take n xs))
  place_last xs i j m n k None lt le at same next e = absurd (omega (arith, past xs k e))
  place_last xs i j m n k (Some x) lt le at same next e =
      ap (λ b. drop i (take b xs)) next
      ∙ ap (drop i) (take_more xs n x (omega arith) ∙ ap (λ (y : X). take n xs ++ y ∷ []) (get_or_from_slice_get xs n x x (sym (e ∙ ap (slice_get xs) at))))
      ∙ drop-append-le i (take n xs) (x ∷ []) (omega (arith, length-take-le n xs (omega arith)))
      ∙ ap (λ a. drop a (take n xs) ++ x ∷ []) (sym same)

-- what came of a chain until its end is all that it yields
pub drained : {S A : Type 0} {steps : S → Option A → S → Type 0} {s : S} {all : List A} (xs : List A) → Drains steps s xs → YieldsList steps (λ x. x) s all → xs ≡ all
drained xs d e = sym (map-id xs) ∙ items_from_drains xs (d.1.0, d.1.1, λ _. (d.0, d.1.2)) e

-- a walk that hands out the last of a list
module _ {X : Type 0} where
  pub taken_last : (s t : List X) (r : Option X) → is_some r ≡ true → s ≡ t ++ option_to_list r → TakesLast (λ (x : X). x) s r t
  taken_last s t None e h = cc
  taken_last s t (Some x) e h = h

  pub none_taken : (s t : List X) (r : Option X) → is_some r ≡ false → s ≡ t ++ option_to_list r → t ≡ s
  none_taken s t None e h = sym (h ∙ append-nil t)
  none_taken s t (Some x) e h = cc

  pub last_progress : (s t : List X) (r : Option X) → TakesLast (λ (x : X). x) s r t → MakesProgress (λ _. Unit {0}) (λ (l : List X). at_most (length l)) s r t
  last_progress s t None h = record { on = λ _. tt; keeps = tt; rests = λ _. tt }
  last_progress s t (Some x) h = record { on = λ _. (tt, tt, omega (arith, ap length h, length_push t x)); keeps = tt; rests = λ _. tt }
