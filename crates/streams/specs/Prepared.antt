-- The prepared list: which entries open, and what the stream over them means.
use Rattle.std.specs.Prelude.{◌≡◌, ℕ, zero, suc, ◌+◌, ◌<◌, ◌≤◌, Bool, true, cond, ◌&&◌, List, [], ◌∷◌, length, Some, None, nat_le, nat_lt, slice_index_or, refl}
use Rattle.std.proofs.Common.{ap, ◌∙◌, arith}
use Rattle.std.specs.List.{slice_get}
use Rattle.std.proofs.lemmas.Bool.{and_parts, and_from, leb-true, ltb-true, le-leb}
use Rattle.times.specs.Clock.{entry_limit}
use Rattle.documents.specs.declared.document.Document.{Document}
use Rattle.streams.specs.declared.prepared.Entry.{Entry}
use Rattle.streams.specs.Streams.{Parts, Lawful, orderly, most_shown}
use Rattle.streams.specs.Fronts.{orderly_from}

-- an entry's begin does not fall below b and lies before its end, which is within the entry limit
abbrev pub fits : ℕ → Entry → Bool
fits b x = nat_le b x.begin && (nat_lt x.begin x.end && nat_le x.end entry_limit)

-- each entry fits after the one before, the first after b
abbrev pub ordered : ℕ → List Entry → Bool
ordered b [] = true
ordered b (x ∷ xs) = fits b x && ordered x.begin xs

-- the lists that open: short enough, each entry in turn good
abbrev pub is_prepared_of : List Entry → Bool
is_prepared_of xs = nat_le (length xs) most_shown && ordered 0 xs

-- an entry as a document: available at 0, no dur
abbrev pub document_of : ℕ → Entry → Document
document_of n x = record { number = n; available = 0; begin = Some x.begin; end = Some x.end; dur = None; content = x.content }

-- entry i, from 0, is document i + 1, where n is 0
abbrev pub documents_from : ℕ → List Entry → List Document
documents_from n [] = []
documents_from n (x ∷ xs) = document_of (n + 1) x ∷ documents_from (n + 1) xs

-- the parts of a prepared list: all is settled, nothing is delayed, and it does not take
abbrev pub prepared_parts : List Entry → Parts
prepared_parts xs = record { shown = documents_from 0 xs; settled = 360000000; total = 0; entry = None }

-- what opening refuses: 18, or nothing
abbrev pub opening_refusal : List Entry → ℕ
opening_refusal xs = cond (is_prepared_of xs) 0 18

-- the parts of what is opened: entries that are refused give an empty list
abbrev pub opened_parts : List Entry → Parts
opened_parts xs = cond (is_prepared_of xs) (prepared_parts xs) (prepared_parts [])

pub length_from : (n : ℕ) (xs : List Entry) → length (documents_from n xs) ≡ length xs
length_from n [] = refl
length_from n (x ∷ xs) = ap suc (length_from (n + 1) xs)

orderly_entries : (n b : ℕ) (xs : List Entry) → ordered b xs ≡ true → orderly 355199999 n 0 (documents_from n xs) ≡ true
orderly_entries n b [] h = refl
orderly_entries n b (x ∷ xs) h =
    let o = and_parts (fits b x) (ordered x.begin xs) h in
    let p = and_parts (nat_le b x.begin) _ o.0 in
    let q = and_parts (nat_lt x.begin x.end) (nat_le x.end 355199999) p.1 in
    let lt = ltb-true x.begin x.end q.0 in
    let le = leb-true x.end 355199999 q.1 in
    orderly_from 355199999 n 0 (document_of (n + 1) x) (documents_from (n + 1) xs) (record {
      above = omega arith;
      from = omega arith;
      times = and_from _ _ (le-leb 0 355199999 (omega arith)) (and_from _ _ (le-leb x.begin 355199999 (omega arith)) (and_from _ _ q.1 refl));
      rest = orderly_entries (n + 1) x.begin xs o.1;
    })

pub prepared_lawful : (xs : List Entry) → is_prepared_of xs ≡ true → Lawful (prepared_parts xs)
prepared_lawful xs h =
    let p = and_parts (nat_le (length xs) 4096) _ h in
    record { few = omega (arith, length_from 0 xs, leb-true (length xs) 4096 p.0); ordered = orderly_entries 0 0 xs p.1; capped = omega arith; bounded = omega arith; faithful = tt }

pub prepared_at : (n : ℕ) (xs : List Entry) (i : ℕ) (d : Entry) → i < length xs → slice_get (documents_from n xs) i ≡ Some (document_of (n + i + 1) (slice_index_or xs i d))
prepared_at n [] i d h = absurd (omega arith)
prepared_at n (x ∷ xs) zero d h = let e : n + 1 ≡ n + 0 + 1 = omega arith in ap (λ (m : ℕ). Some (document_of m x)) e
prepared_at n (x ∷ xs) (suc i) d h =
    let e : (n + 1) + i + 1 ≡ n + suc i + 1 = omega arith in
    prepared_at (n + 1) xs i d (omega arith) ∙ ap (λ (m : ℕ). Some (document_of m (slice_index_or xs i d))) e

pub prepared_past : (n : ℕ) (xs : List Entry) (i : ℕ) → length xs ≤ i → slice_get (documents_from n xs) i ≡ None
prepared_past n [] i h = refl
prepared_past n (x ∷ xs) zero h = absurd (omega arith)
prepared_past n (x ∷ xs) (suc i) h = prepared_past (n + 1) xs i (omega arith)
