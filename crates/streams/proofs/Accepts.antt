-- What a take has found where it refuses nothing, and what the table is after it.
-- No proof here cites these any more; proofs of a host's own may.
use Rattle.std.proofs.Common.{◌≡◌, ℕ, ◌+◌, ◌-◌, ◌<◌, ◌≤◌, Bool, true, false, cond, eqb, ltb, leb, List, [], ◌∷◌, ◌++◌, length, take, set, Some, None, Option, sym, ap, ◌∙◌, arith}
use Rattle.std.proofs.lemmas.Bool.{ne_eqb, le-ltb, lt-leb, leb-true, and_parts}
use Rattle.std.proofs.lemmas.List.{take_more_set, length-set}
use Rattle.documents.specs.declared.document.Document.{Document}
use Rattle.streams.specs.Streams.{Parts, Entry, orderly, timely, later_of}
use Rattle.streams.specs.Taking.{last_number_of, take_refusal, taken, after_take}
use Rattle.streams.specs.Tables.{usable, table_parts, records_after}
use Rattle.streams.specs.Fronts.{last_available, orderly_push, available_push}

pub record Passed (n : ℕ) (xs : List Document) (m : ℕ) (x : Document) : Type 0 where
  pub numbered : x.number ≡ 0 → ⊥
  pub times : timely 355199999 x ≡ true
  pub from : m ≤ x.available
  pub above : last_number_of (take n xs) < x.number
  pub free : n < length xs
  pub few : n < 4096

none_of : (b₁ b₂ b₃ b₄ b₅ : Bool) → b₁ ≡ false → b₂ ≡ true → b₃ ≡ false → b₄ ≡ false → b₅ ≡ false → ◌≡◌ {A = ℕ} (cond b₁ 4 (cond b₂ (cond b₃ 8 (cond b₄ 9 (cond b₅ 10 0))) 7)) 0
none_of b₁ b₂ b₃ b₄ b₅ p q r s t = rw (p, q, r, s, t)

pub accepts : (n : ℕ) (xs : List Document) (m : ℕ) (x : Document) → Passed n xs m x → take_refusal (table_parts n xs m) x ≡ 0
accepts n xs m x h =
    none_of (eqb x.number 0) (timely 355199999 x) (ltb x.available m) (leb x.number (last_number_of (take n xs))) (eqb (usable xs - n) 0) (ne_eqb _ _ h.numbered) h.times (le-ltb _ _ h.from) (lt-leb _ _ h.above) (ne_eqb _ _ (λ e. omega (arith, h.free, h.few, e)))

-- the table's parts after it
pub grown : (n : ℕ) (xs : List Document) (m : ℕ) (x : Document) → Passed n xs m x → table_parts (n + 1) (set xs n x) x.available ≡ after_take (table_parts n xs m) x
grown n xs m x h =
    let p : Parts = table_parts n xs m in
    let e : Entry = record { moment = m; left = usable xs - n; appearance = λ y. y } in
    let t : take (n + 1) (set xs n x) ≡ take n xs ++ x ∷ [] = take_more_set xs n x h.free in
    let l : usable (set xs n x) - (n + 1) ≡ usable xs - n - 1 = rw length-set (omega arith) in
    let s : x.available ≡ m + (x.available - m) = omega (arith, h.from) in
    let made : List Document → ℕ → ℕ → Parts = λ ys k j. record { shown = ys; settled = k; total = 0; entry = Some (record { moment = x.available; left = j; appearance = λ y. y }) } in
    let g : table_parts (n + 1) (set xs n x) x.available ≡ taken p e x =
    ap (λ ys. made ys x.available (usable (set xs n x) - (n + 1))) t
    ∙ ap (λ j. made (take n xs ++ x ∷ []) x.available j) l
    ∙ ap (λ k. made (take n xs ++ x ∷ []) k (usable xs - n - 1)) s in
    g ∙ ap (λ (c : ℕ). cond (eqb c 0) (taken p e x) p) (sym (accepts n xs m x h))

-- the lent records after it
pub written : (n : ℕ) (xs : List Document) (m : ℕ) (x : Document) → Passed n xs m x → set xs n x ≡ records_after n xs m x
written n xs m x h = ap (λ (c : ℕ). cond (eqb c 0) (set xs n x) xs) (sym (accepts n xs m x h))

-- the table's own facts last
pub within_grown : (n : ℕ) (xs : List Document) (m : ℕ) (x : Document) → Passed n xs m x → n + 1 ≤ usable (set xs n x)
within_grown n xs m x h = rw length-set (omega (arith, h.free, h.few))

pub ordered_grown : (n : ℕ) (xs : List Document) (m : ℕ) (x : Document) → Passed n xs m x → orderly 355199999 0 0 (take n xs) ≡ true → last_available 0 (take n xs) ≤ m → orderly 355199999 0 0 (take (n + 1) (set xs n x)) ≡ true
ordered_grown n xs m x h f r =
    ap (orderly 355199999 0 0) (take_more_set xs n x h.free) ∙ orderly_push 355199999 0 0 (take n xs) x f h.above (omega (arith, h.from)) h.times

pub reached_grown : (n : ℕ) (xs : List Document) (m : ℕ) (x : Document) → Passed n xs m x → last_available 0 (take (n + 1) (set xs n x)) ≤ x.available
reached_grown n xs m x h =
    let e = ap (last_available 0) (take_more_set xs n x h.free) ∙ available_push 0 (take n xs) x in omega (arith, e)

pub entering_grown : (n : ℕ) (xs : List Document) (m : ℕ) (x : Document) → Passed n xs m x → x.available ≤ 355199999
entering_grown n xs m x h = leb-true _ _ (and_parts (leb x.available 355199999) _ h.times).0

pub later-least : (m a : ℕ) (o : Option ℕ) → m ≤ a → m ≤ later_of a o
later-least m a (Some t) h = omega arith
later-least m a None h = h
