-- Empty parts at the front of a text are the separators that it begins with.
use Rattle.std.proofs.Common.{◌≡◌, ℕ, suc, ◌+◌, ◌<◌, ◌≤◌, Bool, true, false, not, cond, eqb, ltb, List, [], ◌∷◌, length, drop, sym, refl, ap, ◌∙◌, ap₂, arith}
use Rattle.std.proofs.lemmas.Bool.Decides.{nat_tests}
use Rattle.std.proofs.lemmas.Bool.{lt-ltb, cond-true}
use Rattle.std.proofs.lemmas.List.{drop-drop, length-drop}
use Rattle.std.specs.List.{position_or_len}
use Rattle.std.proofs.lemmas.List.Recursion.{is_position_or_len}
use Rattle.fields.specs.Parts.{Part, longer, parts, leading, past_empty}

pub leading_le : (sep : ℕ) (bs : List ℕ) → leading sep bs ≤ length bs
leading_le sep [] = omega arith
leading_le sep (b ∷ bs) = elim (eqb b sep) as (λ v. cond v (suc (leading sep bs)) 0 ≤ suc (length bs)) [ true ↦ omega (arith, leading_le sep bs) | false ↦ omega arith ]

pub leading_is : (sep : ℕ) (bs : List ℕ) → leading sep bs ≡ position_or_len (λ b. not (eqb b sep)) bs
leading_is sep bs = is_position_or_len (leading sep) (λ b. not (eqb b sep)) refl (λ b bs. elim (eqb b sep) as (λ v. cond v (suc (leading sep bs)) 0 ≡ cond (not v) 0 (1 + leading sep bs)) [ true ↦ omega arith | false ↦ refl ]) bs

length_longer : (k b : ℕ) (ps : List Part) → length (longer k b ps) ≡ length ps
length_longer k b [] = refl
length_longer k b (p ∷ ps) = refl

-- there is always a part
parts_some : (sep k : ℕ) (bs : List ℕ) → 0 < length (parts sep k bs)
parts_some sep k [] = omega arith
parts_some sep k (b ∷ bs) = elim (eqb b sep) as (λ v. 0 < length (cond v (record { offset = k; bytes = [] } ∷ parts sep (k + 1) bs) (longer k b (parts sep (k + 1) bs)))) [ true ↦ omega arith | false ↦ omega (arith, length_longer k b (parts sep (k + 1) bs), parts_some sep (k + 1) bs) ]

-- a part that has bytes stays
past_longer : (k b : ℕ) (ps : List Part) → past_empty (longer k b ps) ≡ longer k b ps
past_longer k b [] = refl
past_longer k b (p ∷ ps) = let e : eqb (suc (length p.bytes)) 0 ≡ false = grind (arith, nat_tests) in simp e

-- past the separators in front stand the parts of what follows them
pub past_parts : (sep k : ℕ) (bs : List ℕ) → past_empty (parts sep k bs) ≡ parts sep (k + leading sep bs) (drop (leading sep bs) bs)
past_parts sep k [] = ap (λ j. parts sep j []) (omega arith)
past_parts sep k (b ∷ bs) = step (eqb b sep) refl (past_parts sep (k + 1) bs)
  where
    step : (v : Bool) → eqb b sep ≡ v → past_empty (parts sep (k + 1) bs) ≡ parts sep (k + 1 + leading sep bs) (drop (leading sep bs) bs) → past_empty (parts sep k (b ∷ bs)) ≡ parts sep (k + leading sep (b ∷ bs)) (drop (leading sep (b ∷ bs)) (b ∷ bs))
    step true e later =
        let more = cond-true (ltb 0 (length (parts sep (k + 1) bs))) (past_empty (parts sep (k + 1) bs)) (record { offset = k; bytes = [] } ∷ parts sep (k + 1) bs) (lt-ltb _ _ (parts_some sep (k + 1) bs)) in
        simp e (more ∙ later ∙ ap (λ j. parts sep j (drop (leading sep bs) bs)) (omega arith))
    step false e later = simp e (past_longer k b (parts sep (k + 1) bs) ∙ ap (λ j. longer j b (parts sep (j + 1) bs)) (omega arith))

pub count_parts : (sep k : ℕ) (bs : List ℕ) → leading sep bs + length (parts sep (k + leading sep bs) (drop (leading sep bs) bs)) ≡ length (parts sep k bs)
count_parts sep k [] = refl
count_parts sep k (b ∷ bs) = step (eqb b sep) refl (count_parts sep (k + 1) bs)
  where
    step : (v : Bool) → eqb b sep ≡ v → leading sep bs + length (parts sep (k + 1 + leading sep bs) (drop (leading sep bs) bs)) ≡ length (parts sep (k + 1) bs) → leading sep (b ∷ bs) + length (parts sep (k + leading sep (b ∷ bs)) (drop (leading sep (b ∷ bs)) (b ∷ bs))) ≡ length (parts sep k (b ∷ bs))
    step true e later =
        let same : length (parts sep (k + suc (leading sep bs)) (drop (leading sep bs) bs)) ≡ length (parts sep (k + 1 + leading sep bs) (drop (leading sep bs) bs)) = ap (λ j. length (parts sep j (drop (leading sep bs) bs))) (omega arith) in
        simp e (omega (arith, same, later))
    step false e later =
        let same : length (longer (k + 0) b (parts sep (k + 0 + 1) bs)) ≡ length (longer k b (parts sep (k + 1) bs)) = ap (λ j. length (longer j b (parts sep (j + 1) bs))) (omega arith) in
        simp e (omega (arith, same))

-- the same from a place in a text, as a reader goes on
pub skipped : (sep base place n : ℕ) (text after : List ℕ) → place ≤ length text → after ≡ drop place text → n ≡ leading sep after
    → (place + n ≤ length text) × (parts sep (base + (place + n)) (drop (place + n) text) ≡ past_empty (parts sep (base + place) (drop place text))) × (n + length (parts sep (base + (place + n)) (drop (place + n) text)) ≡ length (parts sep (base + place) (drop place text)))
skipped sep base place n text after l e is =
    let d : drop (place + n) text ≡ drop (leading sep after) after = ap (λ j. drop j text) (omega arith) ∙ sym (drop-drop n place text) ∙ ap (drop n) (sym e) ∙ ap (λ j. drop j after) is in
    let f : parts sep (base + (place + n)) (drop (place + n) text) ≡ parts sep (base + place + leading sep after) (drop (leading sep after) after) = ap₂ (λ j t. parts sep j t) (omega (arith, is)) d in
    let g : parts sep (base + place) after ≡ parts sep (base + place) (drop place text) = ap (parts sep (base + place)) e in
    (omega (arith, leading_le sep after, is, ap length e, length-drop place text), f ∙ sym (past_parts sep (base + place) after) ∙ ap past_empty g, omega (arith, is, ap length f, count_parts sep (base + place) after, ap length g))
