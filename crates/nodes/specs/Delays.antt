-- What a node makes of lawful parts is lawful: facts that the nodes' ghost members cite.
use Rattle.std.specs.Prelude.{◌≡◌, ℕ, zero, suc, ◌+◌, ◌≤◌, true, List, [], ◌∷◌, map, Some, None, Option, nat_le, refl}
use Rattle.std.proofs.Common.{sym, ap, ◌∙◌, arith}
use Rattle.std.specs.List.{slice_get}
use Rattle.std.specs.Option.{option_map}
use Rattle.std.proofs.lemmas.Option.{slice_get-map}
use Rattle.std.proofs.lemmas.Bool.{and_parts, and_from, leb-true, le-leb}
use Rattle.std.proofs.lemmas.List.{length-map}
use Rattle.documents.specs.declared.document.Document.{Document}
use Rattle.streams.specs.Streams.{Parts, Entry, Lawful, Faithful, up_to, timely, orderly, later_of}
use Rattle.streams.specs.Stacks.{Delay, holding, retiming, adjustment, later, held, retimed, delayed, delayed_entry}
use Rattle.streams.specs.Fronts.{orderly_facts, orderly_from}

pub up_to_later : (d l l' : ℕ) (o : Option ℕ) → l + d ≤ l' → up_to l o ≡ true → up_to l' (later d o) ≡ true
up_to_later d l l' (Some t) m h = le-leb (t + d) l' (omega (arith, leb-true t l h))
up_to_later d l l' None m h = refl

pub later-most : (l a : ℕ) (o : Option ℕ) → a ≤ l → up_to l o ≡ true → later_of a o ≤ l
later-most l a (Some t) m h = omega (arith, leb-true t l h)
later-most l a None m h = m

-- The four facts of a timely document.
pub record Timely (l : ℕ) (x : Document) : Type 0 where
  pub available-in : x.available ≤ l
  pub begin-in : up_to l x.begin ≡ true
  pub end-in : up_to l x.end ≡ true
  pub dur-in : up_to 355199999 x.dur ≡ true

pub timely_facts : (l : ℕ) (x : Document) → timely l x ≡ true → Timely l x
timely_facts l x h =
    let p = and_parts (nat_le x.available l) _ h in
    let q = and_parts (up_to l x.begin) _ p.1 in
    let r = and_parts (up_to l x.end) _ q.1 in
    record { available-in = leb-true _ _ p.0; begin-in = q.0; end-in = r.0; dur-in = r.1 }

pub timely-from : (l : ℕ) (x : Document) → Timely l x → timely l x ≡ true
timely-from l x h =
    and_from _ _ (le-leb _ _ h.available-in) (and_from _ _ h.begin-in (and_from _ _ h.end-in h.dur-in))

pub timely-held : (d l l' : ℕ) (x : Document) → l + d ≤ l' → timely l x ≡ true → timely l' (held d x) ≡ true
timely-held d l l' x m h =
    let f = timely_facts l x h in
    timely-from l' (held d x) (record { available-in = omega (arith, f.available-in); begin-in = up_to_later d l l' _ m f.begin-in; end-in = up_to_later d l l' _ m f.end-in; dur-in = f.dur-in })

pub timely-retimed : (d l l' : ℕ) (x : Document) → l + d ≤ l' → timely l x ≡ true → timely l' (retimed d x) ≡ true
timely-retimed d l l' x m h =
    let f = timely_facts l x h in
    let b : later_of x.available x.begin ≤ l = later-most l x.available x.begin f.available-in f.begin-in in
    timely-from l' (retimed d x) (record { available-in = omega (arith, f.available-in); begin-in = le-leb _ _ (omega arith); end-in = up_to_later d l l' _ m f.end-in; dur-in = f.dur-in })

pub orderly-held : (d l l' n a a' : ℕ) (xs : List Document) → l + d ≤ l' → a' ≤ a + d → orderly l n a xs ≡ true → orderly l' n a' (map (held d) xs) ≡ true
orderly-held d l l' n a a' [] m k h = refl
orderly-held d l l' n a a' (x ∷ xs) m k h =
    let f = orderly_facts l n a x xs h in
    orderly_from l' n a' (held d x) (map (held d) xs) (record { above = f.above; from = omega (arith, f.from); times = timely-held d l l' x m f.times; rest = orderly-held d l l' x.number x.available (x.available + d) xs m (omega arith) f.rest })

pub orderly-retimed : (d l l' n a : ℕ) (xs : List Document) → l + d ≤ l' → orderly l n a xs ≡ true → orderly l' n a (map (retimed d) xs) ≡ true
orderly-retimed d l l' n a [] m h = refl
orderly-retimed d l l' n a (x ∷ xs) m h =
    let f = orderly_facts l n a x xs h in
    orderly_from l' n a (retimed d x) (map (retimed d) xs) (record { above = f.above; from = f.from; times = timely-retimed d l l' x m f.times; rest = orderly-retimed d l l' x.number x.available xs m f.rest })

-- Each document of an orderly list is timely.
pub timely_nth : (l n a : ℕ) (xs : List Document) (i : ℕ) (x : Document) → orderly l n a xs ≡ true → slice_get xs i ≡ Some x → timely l x ≡ true
timely_nth l n a [] i x h e = let z : ◌≡◌ {A = ℕ} 0 1 = cc in absurd (omega arith)
timely_nth l n a (y ∷ ys) zero x h e = let s : y ≡ x = cc in rw (sym s) (orderly_facts l n a y ys h).times
timely_nth l n a (y ∷ ys) (suc i) x h e =
    let f = orderly_facts l n a y ys h in timely_nth l y.number y.available ys i x f.rest e

faithful_held : (d : ℕ) (o : Option Entry) → Faithful o → Faithful (delayed_entry (held d) o)
faithful_held d (Some e) h = h
faithful_held d None h = tt

faithful_retimed : (d : ℕ) (o : Option Entry) → Faithful o → Faithful (delayed_entry (retimed d) o)
faithful_retimed d (Some e) h = h
faithful_retimed d None h = tt

pub delayed_lawful : (k : Delay) (p : Parts) → Lawful p → Lawful (delayed k p)
delayed_lawful (holding a) p h =
    let f = h.capped in
    let d : ℕ = adjustment (holding a) p.total in
    record {
      few = rw length-map h.few;
      ordered = orderly-held d (355199999 + p.total) (355199999 + (p.total + d)) 0 0 0 p.shown (omega arith) (omega arith) h.ordered;
      capped = omega arith;
      bounded = omega (arith, h.bounded);
      faithful = faithful_held d p.entry h.faithful;
    }
delayed_lawful (retiming a) p h =
    let f = h.capped in
    let d : ℕ = adjustment (retiming a) p.total in
    record {
      few = rw length-map h.few;
      ordered = orderly-retimed d (355199999 + p.total) (355199999 + (p.total + d)) 0 0 p.shown (omega arith) h.ordered;
      capped = omega arith;
      bounded = omega (arith, h.bounded);
      faithful = faithful_retimed d p.entry h.faithful;
    }

-- No function's proof here cites the rest; proofs of a host's own may.

-- A limit may grow.
pub up_to_more : (l l' : ℕ) (o : Option ℕ) → l ≤ l' → up_to l o ≡ true → up_to l' o ≡ true
up_to_more l l' (Some t) m h = le-leb t l' (omega (arith, leb-true t l h))
up_to_more l l' None m h = refl

pub timely_more : (l l' : ℕ) (x : Document) → l ≤ l' → timely l x ≡ true → timely l' x ≡ true
timely_more l l' x m h =
    let f = timely_facts l x h in
    timely-from l' x (record { available-in = omega (arith, f.available-in); begin-in = up_to_more l l' _ m f.begin-in; end-in = up_to_more l l' _ m f.end-in; dur-in = f.dur-in })

-- A document at a place, and none there, once a function has gone over the list.
pub nth_map : (f : Document → Document) (xs : List Document) (i : ℕ) (x : Document) → slice_get xs i ≡ Some x → slice_get (map f xs) i ≡ Some (f x)
nth_map f xs i x e = slice_get-map f xs i ∙ ap (option_map f) e

pub nth_map_none : (f : Document → Document) (xs : List Document) (i : ℕ) → slice_get xs i ≡ None → slice_get (map f xs) i ≡ None
nth_map_none f xs i e = slice_get-map f xs i ∙ ap (option_map f) e

-- What a node answers at a place, from what the stream below answers there.
pub altered_at : (f : ℕ → Document → Document) (d e : ℕ) (xs : List Document) (i : ℕ) (x y : Document) → e ≡ d → y ≡ f e x → Some x ≡ slice_get xs i → Some y ≡ slice_get (map (f d) xs) i
altered_at f d e xs i x y p q h = let k = nth_map (f d) xs i x (sym h) in cc

pub altered_none : (f : ℕ → Document → Document) (d : ℕ) (xs : List Document) (i : ℕ) → None ≡ slice_get xs i → None ≡ slice_get (map (f d) xs) i
altered_none f d xs i h = sym (nth_map_none (f d) xs i (sym h))
