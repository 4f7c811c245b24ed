-- The loop that looks at each entry.
-- No proof here cites these any more; proofs of a host's own may.
use Rattle.std.proofs.Common.{◌≡◌, ℕ, ◌+◌, ◌<◌, ◌≤◌, Bool, true, false, ◌&&◌, leb, List, length, get_or, drop, sym, ap, ◌∙◌}
use Rattle.std.proofs.lemmas.List.{at_drop_more, at_drop_all}
use Rattle.std.proofs.lemmas.Bool.{and_left, and_right, and_from, le-leb, lt-leb}
use Rattle.streams.specs.declared.prepared.Entry.{Entry}
use Rattle.streams.specs.Prepared.{fits, ordered, is_prepared_of}

pub ordered_more : (b : ℕ) (xs : List Entry) (i : ℕ) (d : Entry) → i < length xs → true ≡ fits b (get_or xs i d) → ordered (get_or xs i d).begin (drop (i + 1) xs) ≡ ordered b (drop i xs)
ordered_more b xs i d h e = sym (at_drop_more (ordered b) xs i d h ∙ ap (λ (t : Bool). t && ordered (get_or xs i d).begin (drop (i + 1) xs)) (sym e))

pub ordered_not : (b : ℕ) (xs : List Entry) (i : ℕ) (d : Entry) → i < length xs → false ≡ fits b (get_or xs i d) → ordered b (drop i xs) ≡ ordered 0 xs → false ≡ is_prepared_of xs
ordered_not b xs i d h e inv =
    sym (and_right (leb (length xs) 4096) (ordered 0 xs) (sym inv ∙ at_drop_more (ordered b) xs i d h ∙ and_left (fits b (get_or xs i d)) _ (sym e)))

pub ordered_all : (b : ℕ) (xs : List Entry) (i : ℕ) → length xs ≤ i → length xs ≤ 4096 → ordered b (drop i xs) ≡ ordered 0 xs → true ≡ is_prepared_of xs
ordered_all b xs i h few inv = sym (and_from _ _ (le-leb (length xs) 4096 few) (sym inv ∙ at_drop_all (ordered b) xs i h))

pub too_many : (xs : List Entry) → 4096 < length xs → false ≡ is_prepared_of xs
too_many xs h = sym (and_left (leb (length xs) 4096) (ordered 0 xs) (lt-leb (length xs) 4096 h))
