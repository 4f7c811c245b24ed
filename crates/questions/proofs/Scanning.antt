-- What chains and loops over the documents of a stream find, in the words of the questions.
use Rattle.std.proofs.Common.{◌≡◌, ℕ, zero, suc, ◌+◌, ◌≤◌, min, Bool, true, false, cond, ltb, leb, List, [], ◌∷◌, map, drop, Some, None, Option, sym, refl, ap, ◌∙◌, ap₂, arith, add-one}
use Rattle.std.specs.List.{filter, find, fold, last_or, slice_get}
use Rattle.std.proofs.lemmas.Bool.{cond-true, cond-false}
use Rattle.documents.specs.declared.document.Document.{Document}
use Rattle.questions.specs.declared.window.Window.{Window}
use Rattle.questions.specs.Resolved.{resolved_begin_of, own_end_of, resolved_end_of}
use Rattle.questions.specs.Asking.{found}
use Rattle.questions.specs.Scans.{next_begun_of, cut_by_of, last_begun_of}
use Rattle.questions.proofs.Latest.{end_own}

pub find_found : (p : Document → Bool) (ds : List Document) → find p ds ≡ found p ds
find_found p [] = refl
find_found p (d ∷ ds) = ap (cond (p d) (Some d)) (find_found p ds)

pub last_filter : (w : Window) (t : ℕ) (o : Option Document) (ds : List Document) → last_or o (filter (λ d. leb (resolved_begin_of w d) t) ds) ≡ last_begun_of w t o ds
last_filter w t o [] = refl
last_filter w t o (d ∷ ds) = step (leb (resolved_begin_of w d) t) (λ o. last_filter w t o ds)
  where
    step : (b : Bool) → ((o : Option Document) → last_or o (filter (λ d. leb (resolved_begin_of w d) t) ds) ≡ last_begun_of w t o ds)
        → last_or o (cond b (d ∷ filter (λ d. leb (resolved_begin_of w d) t) ds) (filter (λ d. leb (resolved_begin_of w d) t) ds)) ≡ last_begun_of w t (cond b (Some d) o) ds
    step true rest = rest (Some d)
    step false rest = rest o

module _ (w : Window) (d : Document) where
  -- an end that is cut at the begin of each greater number
  abbrev cut_at : ℕ → List Document → ℕ
  cut_at a ds = fold (λ end begin. min begin end) a (map (resolved_begin_of w) (filter (λ e. ltb d.number e.number) ds))

  cut_end : (a : ℕ) (ds : List Document) → a ≤ own_end_of w d → cut_at a ds ≡ min a (resolved_end_of w ds d)
  cut_end a [] h = omega arith
  cut_end a (e ∷ ds) h = step (ltb d.number e.number) (λ k. cut_end k ds)
    where
      step : (b : Bool) → ((k : ℕ) → k ≤ own_end_of w d → cut_at k ds ≡ min k (resolved_end_of w ds d))
          → fold (λ end begin. min begin end) a (map (resolved_begin_of w) (cond b (e ∷ filter (λ e. ltb d.number e.number) ds) (filter (λ e. ltb d.number e.number) ds)))
          ≡ min a (cond b (min (resolved_begin_of w e) (resolved_end_of w ds d)) (resolved_end_of w ds d))
      step true rest = omega (arith, rest (min (resolved_begin_of w e) a) (omega arith))
      step false rest = rest a h

  pub fold_end : (a : ℕ) (ds : List Document) → a ≡ own_end_of w d → cut_at a ds ≡ resolved_end_of w ds d
  fold_end a ds e = omega (arith, e, cut_end a ds (omega (arith, e)), end_own w ds d)

-- The steps of a loop over what a stream shows: no proof here cites what follows; proofs of a host's own may.

drop_nth_suc : (xs : List Document) (i : ℕ) (x : Document) → Some x ≡ slice_get xs i → drop i xs ≡ x ∷ drop (suc i) xs
drop_nth_suc [] i x e = cc
drop_nth_suc (y ∷ ys) zero x e = let s : y ≡ x = cc in ap (λ (v : Document). v ∷ ys) s
drop_nth_suc (y ∷ ys) (suc i) x e = drop_nth_suc ys i x e

drop-none-suc : (xs : List Document) (i : ℕ) → None ≡ slice_get xs i → drop (suc i) xs ≡ drop i xs
drop-none-suc [] zero e = refl
drop-none-suc [] (suc i) e = refl
drop-none-suc (y ∷ ys) zero e = cc
drop-none-suc (y ∷ ys) (suc i) e = drop-none-suc ys i e

pub drop_nth : (xs : List Document) (i : ℕ) (x : Document) → Some x ≡ slice_get xs i → drop i xs ≡ x ∷ drop (i + 1) xs
drop_nth xs i x e = rw add-one (drop_nth_suc xs i x e)

pub drop-none : (xs : List Document) (i : ℕ) → None ≡ slice_get xs i → drop (i + 1) xs ≡ drop i xs
drop-none xs i e = rw add-one (drop-none-suc xs i e)

pub last_more : (w : Window) (t : ℕ) (o o' r : Option Document) (xs : List Document) (i : ℕ) → r ≡ slice_get xs i → o' ≡ next_begun_of w t o r
    → last_begun_of w t o' (drop (i + 1) xs) ≡ last_begun_of w t o (drop i xs)
last_more w t o o' None xs i e p = ap₂ (last_begun_of w t) p (drop-none xs i e)
last_more w t o o' (Some d) xs i e p =
    ap (λ (v : Option Document). last_begun_of w t v (drop (i + 1) xs)) p ∙ sym (ap (last_begun_of w t o) (drop_nth xs i d e))

pub end_less : (w : Window) (d : Document) (end end' : ℕ) (r : Option Document) (xs : List Document) (i : ℕ) → r ≡ slice_get xs i → end ≡ resolved_end_of w (drop (i + 1) xs) d
    → end' ≡ cut_by_of w d.number end r → end' ≡ resolved_end_of w (drop i xs) d
end_less w d end end' None xs i e h p = p ∙ h ∙ ap (λ (v : List Document). resolved_end_of w v d) (drop-none xs i e)
end_less w d end end' (Some x) xs i e h p =
    p ∙ ap (λ (v : ℕ). cond (ltb d.number x.number) (min (resolved_begin_of w x) v) v) h ∙ sym (ap (λ (v : List Document). resolved_end_of w v d) (drop_nth xs i x e))

pub found_here : (p : Document → Bool) (xs : List Document) (i : ℕ) (d : Document) → Some d ≡ slice_get xs i → p d ≡ true → found p (drop i xs) ≡ Some d
found_here p xs i d e h = ap (found p) (drop_nth xs i d e) ∙ cond-true (p d) (Some d) (found p (drop (i + 1) xs)) h

pub found_not_here : (p : Document → Bool) (xs : List Document) (i : ℕ) (d : Document) → Some d ≡ slice_get xs i → p d ≡ false → found p (drop (i + 1) xs) ≡ found p (drop i xs)
found_not_here p xs i d e h = sym (ap (found p) (drop_nth xs i d e) ∙ cond-false (p d) (Some d) (found p (drop (i + 1) xs)) h)

pub none_here : (p : Document → Bool) (xs : List Document) (i : ℕ) → None ≡ slice_get xs i → found p (drop (i + 1) xs) ≡ found p (drop i xs)
none_here p xs i e = ap (found p) (drop-none xs i e)
