-- A text is its first part, and the parts of what stands after the separator.
use Rattle.std.proofs.Common.{◌≡◌, ℕ, suc, ◌+◌, ◌^◌, ◌<◌, ◌≤◌, true, false, cond, eqb, ltb, leb, List, [], ◌∷◌, length, get_or, take, drop, sym, refl, ap, ◌∙◌, arith}
use Rattle.std.proofs.lemmas.List.{at_drop_more, at_drop_all, drop-drop, length-drop}
use Rattle.std.proofs.lemmas.Bool.Decides.{nat_tests}
use Rattle.std.proofs.lemmas.Bool.{eq-eqb, ne_eqb, le-leb, lt-ltb, le-ltb, cond-true, cond-false}
use Rattle.std.specs.List.{position_or_len}
use Rattle.std.proofs.lemmas.List.Recursion.{is_position_or_len}
use Rattle.fields.specs.Parts.{Part, longer, parts, parts_at, before}

pub before_le : (sep : ℕ) (bs : List ℕ) → before sep bs ≤ length bs
before_le sep [] = omega arith
before_le sep (b ∷ bs) = elim (eqb b sep) as (λ v. cond v 0 (suc (before sep bs)) ≤ suc (length bs)) [ true ↦ omega arith | false ↦ omega (arith, before_le sep bs) ]

pub before_is : (sep : ℕ) (bs : List ℕ) → before sep bs ≡ position_or_len (λ b. eqb b sep) bs
before_is sep bs = is_position_or_len (before sep) (λ b. eqb b sep) refl (λ b bs. ap (cond (eqb b sep) 0) (omega arith)) bs

-- The steps and the end of a scan for a separator: no proof here cites these three; proofs of a host's own may.

-- a step: the byte at i is no separator
pub before_more : (sep i : ℕ) (bs : List ℕ) → i < length bs → (get_or bs i 0 ≡ sep → ⊥) → before sep (drop i bs) ≡ suc (before sep (drop (i + 1) bs))
before_more sep i bs l ne =
    let e : before sep (drop i bs) ≡ cond (eqb (get_or bs i 0) sep) 0 (suc (before sep (drop (i + 1) bs))) = at_drop_more (before sep) bs i 0 l in
    let f = ne_eqb (get_or bs i 0) sep ne in
    simp f at e

-- the end: the byte at i is a separator
pub before_here : (sep i : ℕ) (bs : List ℕ) → i < length bs → get_or bs i 0 ≡ sep → before sep (drop i bs) ≡ 0
before_here sep i bs l eq =
    let e : before sep (drop i bs) ≡ cond (eqb (get_or bs i 0) sep) 0 (suc (before sep (drop (i + 1) bs))) = at_drop_more (before sep) bs i 0 l in
    let f = eq-eqb (get_or bs i 0) sep eq in
    simp f at e

pub before_end : (sep i : ℕ) (bs : List ℕ) → length bs ≤ i → before sep (drop i bs) ≡ 0
before_end sep i bs l = at_drop_all (before sep) bs i l

leb-suc : (a b : ℕ) → leb (suc a) (suc b) ≡ leb a b
leb-suc a b = grind (arith, nat_tests)

-- the parts of a text: what stands before the first separator, and the parts of the rest
parts_cut : (sep k : ℕ) (bs : List ℕ) → parts sep k bs ≡ record { offset = k; bytes = take (before sep bs) bs } ∷ cond (leb (suc (before sep bs)) (length bs)) (parts sep (k + suc (before sep bs)) (drop (suc (before sep bs)) bs)) []
parts_cut sep k [] = refl
parts_cut sep k (b ∷ bs) =
    elim (eqb b sep) as (λ v. cond v (record { offset = k; bytes = [] } ∷ parts sep (k + 1) bs) (longer k b (parts sep (k + 1) bs)) ≡ record { offset = k; bytes = take (cond v 0 (suc (before sep bs))) (b ∷ bs) } ∷ cond (leb (suc (cond v 0 (suc (before sep bs)))) (suc (length bs))) (parts sep (k + suc (cond v 0 (suc (before sep bs)))) (drop (suc (cond v 0 (suc (before sep bs)))) (b ∷ bs))) []) [
      | true ↦
          let some : leb 1 (suc (length bs)) ≡ true = le-leb _ _ (omega arith) in
          simp some
      | false ↦
          let e : k + suc (suc (before sep bs)) ≡ k + 1 + suc (before sep bs) = omega arith in
          let f = leb-suc (suc (before sep bs)) (length bs) in
          simp (parts_cut sep (k + 1) bs, e, f)
    ]

-- the same from a place in a text, as a reader goes on
pub left_cut : (sep base place n : ℕ) (text after : List ℕ) → place ≤ length text → after ≡ drop place text → n ≡ before sep after → parts sep (base + place) (drop place text) ≡ record { offset = base + place; bytes = take n after } ∷ cond (leb (place + (n + 1)) (length text)) (parts sep (base + (place + (n + 1))) (drop (place + (n + 1)) text)) []
left_cut sep base place n text after l e is =
    let i : before sep after ≡ n = sym is in
    let o : base + (place + (n + 1)) ≡ base + place + suc n = omega arith in
    let d : drop (place + (n + 1)) text ≡ drop (suc n) after = ap (λ j. drop j text) (omega arith) ∙ sym (drop-drop (suc n) place text) ∙ ap (drop (suc n)) (sym e) in
    let t : leb (place + (n + 1)) (length text) ≡ leb (suc n) (length after) = simp e (rw length-drop (grind (arith, nat_tests))) in
    ap (parts sep (base + place)) (sym e) ∙ parts_cut sep (base + place) after ∙ simp (i, o, d, t)

longer-length : (k b : ℕ) (ps : List Part) → length (longer k b ps) ≡ length ps
longer-length k b [] = refl
longer-length k b (p ∷ ps) = refl

pub parts_few : (sep k : ℕ) (bs : List ℕ) → length (parts sep k bs) ≤ length bs + 1
parts_few sep k [] = omega arith
parts_few sep k (b ∷ bs) =
    elim (eqb b sep) as (λ v. length (cond v (record { offset = k; bytes = [] } ∷ parts sep (k + 1) bs) (longer k b (parts sep (k + 1) bs))) ≤ suc (length bs) + 1)
    [ true ↦ omega (arith, parts_few sep (k + 1) bs) | false ↦ omega (arith, parts_few sep (k + 1) bs, longer-length k b (parts sep (k + 1) bs)) ]

-- A text that is in reach, and one that is not: no proof here cites these two; proofs of a host's own may.
pub parts_near : (sep k : ℕ) (bs : List ℕ) (ps : List Part) → k + length bs < 2 ^ 63 → ps ≡ parts sep k bs → ps ≡ parts_at sep k bs
parts_near sep k bs ps h e = e ∙ sym (cond-true (ltb (k + length bs) (2 ^ 63)) _ _ (lt-ltb _ _ h))

pub parts_far : (sep k : ℕ) (bs : List ℕ) → 2 ^ 63 ≤ k + length bs → [] ≡ parts_at sep k bs
parts_far sep k bs h = sym (cond-false (ltb (k + length bs) (2 ^ 63)) _ _ (le-ltb _ _ h))
