-- Facts about the first n of the lent records, which a live table shows.
use Rattle.std.specs.Prelude.{◌≡◌, ℕ, suc, ◌+◌, ◌-◌, ◌<◌, ◌≤◌, true, List, [], ◌∷◌, ◌++◌, length, get_or, take, Some, None, nat_le, nat_lt, slice_index_or, refl}
use Rattle.std.proofs.Common.{sym, ap, ◌∙◌, arith}
use Rattle.std.specs.List.{slice_get}
use Rattle.std.proofs.lemmas.Option.{slice_get-get_or, slice_get_past}
use Rattle.std.proofs.lemmas.List.{length-take-le, get_or-take, take_more}
use Rattle.std.proofs.lemmas.Bool.{and_parts, and_from, ltb-true, leb-true, lt-ltb, le-leb}
use Rattle.documents.specs.declared.document.Document.{Document}
use Rattle.streams.specs.Streams.{Lawful, orderly, timely}
use Rattle.streams.specs.Taking.{last_from, last_number_of}
use Rattle.streams.specs.Tables.{usable, table_parts}

-- the last availability of a list, or a
abbrev pub last_available : ℕ → List Document → ℕ
last_available a [] = a
last_available a (x ∷ xs) = last_available x.available xs

-- the facts of an orderly list's first document
pub record Orderly (l n a : ℕ) (x : Document) (xs : List Document) : Type 0 where
  pub above : n < x.number
  pub from : a ≤ x.available
  pub times : timely l x ≡ true
  pub rest : orderly l x.number x.available xs ≡ true

pub orderly_facts : (l n a : ℕ) (x : Document) (xs : List Document) → orderly l n a (x ∷ xs) ≡ true → Orderly l n a x xs
orderly_facts l n a x xs h =
    let p = and_parts (nat_lt n x.number) _ h in
    let q = and_parts (nat_le a x.available) _ p.1 in
    let r = and_parts (timely l x) _ q.1 in
    record { above = ltb-true _ _ p.0; from = leb-true _ _ q.0; times = r.0; rest = r.1 }

pub orderly_from : (l n a : ℕ) (x : Document) (xs : List Document) → Orderly l n a x xs → orderly l n a (x ∷ xs) ≡ true
orderly_from l n a x xs h =
    and_from _ _ (lt-ltb _ _ h.above) (and_from _ _ (le-leb _ _ h.from) (and_from _ _ h.times h.rest))

-- the first n records are lawful
pub front_lawful : (n : ℕ) (xs : List Document) (m : ℕ) → n ≤ usable xs → orderly 355199999 0 0 (take n xs) ≡ true → m ≤ 355199999 → Lawful (table_parts n xs m)
front_lawful n xs m w f e =
    let l : length (take n xs) ≡ n = length-take-le n xs (omega arith) in
    record { few = omega arith; ordered = f; capped = omega arith; bounded = omega arith; faithful = λ x. (refl, refl) }

-- One more document at the end.
pub available_push : (a : ℕ) (xs : List Document) (x : Document) → last_available a (xs ++ x ∷ []) ≡ x.available
available_push a [] x = refl
available_push a (y ∷ ys) x = available_push y.available ys x

-- The last document of a list has its last number.
pub last_some : (n : ℕ) (xs : List Document) (x : Document) → slice_get xs (length xs - 1) ≡ Some x → last_from n xs ≡ x.number
last_some n [] x e = cc
last_some n (y ∷ []) x e = let s : y ≡ x = cc in ap (λ (v : Document). v.number) s
last_some n (y ∷ z ∷ zs) x e =
    let k : length (y ∷ z ∷ zs) - 1 ≡ suc (length (z ∷ zs) - 1) = omega arith in
    last_some y.number (z ∷ zs) x (ap (slice_get (y ∷ z ∷ zs)) (sym k) ∙ e)

pub last_none : (n : ℕ) (xs : List Document) → slice_get xs (length xs - 1) ≡ None → last_from n xs ≡ n
last_none n [] e = refl
last_none n (y ∷ ys) e = let s = slice_get-get_or (y ∷ ys) (length (y ∷ ys) - 1) y (omega arith) in cc

pub orderly_push : (l n a : ℕ) (xs : List Document) (x : Document) → orderly l n a xs ≡ true → last_from n xs < x.number → last_available a xs ≤ x.available → timely l x ≡ true → orderly l n a (xs ++ x ∷ []) ≡ true
orderly_push l n a [] x h p q t = orderly_from l n a x [] (record { above = p; from = q; times = t; rest = refl })
orderly_push l n a (y ∷ ys) x h p q t =
    let f = orderly_facts l n a y ys h in
    orderly_from l n a y (ys ++ x ∷ []) (record { above = f.above; from = f.from; times = f.times; rest = orderly_push l y.number y.available ys x f.rest p q t })

-- No proof here cites the rest; proofs of a host's own may.

-- The document at a place of the first n records.
pub front_at : (n : ℕ) (xs : List Document) (i : ℕ) (d : Document) → n ≤ length xs → i < n → Some (slice_index_or xs i d) ≡ slice_get (take n xs) i
front_at n xs i d h k =
    let l : length (take n xs) ≡ n = length-take-le n xs h in
    sym (slice_get-get_or (take n xs) i d (omega arith) ∙ ap Some (get_or-take n xs i d k))

pub front_past : (n : ℕ) (xs : List Document) (i : ℕ) → n ≤ length xs → n ≤ i → None ≡ slice_get (take n xs) i
front_past n xs i h k =
    let l : length (take n xs) ≡ n = length-take-le n xs h in sym (slice_get_past (take n xs) i (omega arith))

pub last_push : (n : ℕ) (xs : List Document) (x : Document) → last_from n (xs ++ x ∷ []) ≡ x.number
last_push n [] x = refl
last_push n (y ∷ ys) x = last_push y.number ys x

pub last_front : (n : ℕ) (xs : List Document) (d : Document) → n ≤ length xs → 0 < n → (get_or xs (n - 1) d).number ≡ last_number_of (take n xs)
last_front n xs d h k =
    let e : n ≡ (n - 1) + 1 = omega arith in
    let t = take_more xs (n - 1) d (omega arith) in
    sym (ap (λ (m : ℕ). last_number_of (take m xs)) e ∙ ap (last_number_of) t ∙ last_push 0 (take (n - 1) xs) (slice_index_or xs (n - 1) d))
