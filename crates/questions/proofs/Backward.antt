-- A walk from the last document to the first lists what the definition lists.
use Rattle.std.proofs.Common.{◌≡◌, ℕ, zero, suc, ◌+◌, ◌<◌, ◌≤◌, min, Bool, true, false, cond, ltb, List, [], ◌∷◌, ◌++◌, length, take, Some, None, Option, sym, refl, ap, ◌∙◌, ap₂, arith}
use Rattle.std.specs.List.{slice_get}
use Rattle.std.proofs.lemmas.List.{take_all, append-nil, append_assoc}
use Rattle.std.proofs.lemmas.Bool.{lt-ltb, le-ltb, cond-true, cond-false, cond_both}
use Rattle.documents.specs.declared.document.Document.{Document}
use Rattle.streams.specs.Streams.{orderly}
use Rattle.streams.specs.Fronts.{orderly_facts}
use Rattle.questions.specs.declared.window.Window.{Window}
use Rattle.questions.specs.declared.schedule.Interval.{Interval}
use Rattle.questions.specs.Resolved.{resolved_begin_of, own_end_of, resolved_end_of, earlier_of, plus}
use Rattle.questions.specs.Schedules.{listed, schedule_of}
use Rattle.questions.specs.Walks.{least_of, cut_interval, interval_before_of, intervals_before}

least_push : (w : Window) (l : ℕ) (ds : List Document) (d : Document) → least_of w l (ds ++ d ∷ []) ≡ least_of w (min (resolved_begin_of w d) l) ds
least_push w l [] d = refl
least_push w l (e ∷ ds) d = ap (λ n. min (resolved_begin_of w e) n) (least_push w l ds d)

intervals_push : (w : Window) (l : ℕ) (ds : List Document) (d : Document) → intervals_before w l (ds ++ d ∷ []) ≡ intervals_before w (min (resolved_begin_of w d) l) ds ++ interval_before_of w l d
intervals_push w l [] d = append-nil (interval_before_of w l d)
intervals_push w l (e ∷ ds) d =
    ap₂ (λ (n : ℕ) (ls : List Interval). interval_before_of w n e ++ ls) (least_push w l ds d) (intervals_push w l ds d)
    ∙ sym (append_assoc (interval_before_of w (least_of w (min (resolved_begin_of w d) l) ds) e) (intervals_before w (min (resolved_begin_of w d) l) ds) (interval_before_of w l d))

-- one document back: the interval that it gives, if any, is the last
pub intervals_back : (w : Window) (l m b : ℕ) (ds es : List Document) (d : Document) (is js : List Interval)
    → intervals_before w l ds ≡ js → ds ≡ es ++ d ∷ [] → b ≡ resolved_begin_of w d → m ≡ min b l → is ≡ interval_before_of w l d → js ≡ intervals_before w m es ++ is
intervals_back w l m b ds es d is js h e f s i =
    sym h ∙ ap (intervals_before w l) e ∙ intervals_push w l es d ∙ ap₂ (λ n (ks : List Interval). intervals_before w n es ++ ks) (sym (s ∙ ap (λ n. min n l) f)) (sym i)

-- at most one interval for each document
pub intervals_few : (w : Window) (l : ℕ) (ds : List Document) → length (intervals_before w l ds) ≤ length ds
intervals_few w l [] = omega arith
intervals_few w l (d ∷ ds) =
    let n = least_of w l ds in
    cond_both (ltb (resolved_begin_of w d) (min (own_end_of w d) n)) (cut_interval w n d ∷ []) [] (λ (is : List Interval). length (is ++ intervals_before w l ds) ≤ suc (length ds))
    (λ _. omega (arith, intervals_few w l ds))
    (λ _. omega (arith, intervals_few w l ds))

-- each number is above n
unfoldable pub Above : ℕ → List Document → Type 0
Above n [] = Unit {0}
Above n (d ∷ ds) = (n < d.number) × Above n ds

above_less : (m n : ℕ) (ds : List Document) → m < n → Above n ds → Above m ds
unfolding Above
above_less m n [] h a = tt
above_less m n (d ∷ ds) h a = (omega (arith, a.0), above_less m n ds h a.1)

pub above-orderly : (l n a : ℕ) (ds : List Document) → orderly l n a ds ≡ true → Above n ds
unfolding Above
above-orderly l n a [] h = tt
above-orderly l n a (d ∷ ds) h =
    let f = orderly_facts l n a d ds h in
    (f.above, above_less n d.number ds f.above (above-orderly l d.number d.available ds f.rest))

-- a smaller number in front changes nothing
end_after : (w : Window) (d : Document) (ds : List Document) (e : Document) → d.number < e.number → resolved_end_of w (d ∷ ds) e ≡ resolved_end_of w ds e
end_after w d ds e h = cond-false (ltb e.number d.number) _ _ (le-ltb _ _ (omega arith))

listed_after : (w : Window) (d : Document) (ds es : List Document) → Above d.number es → listed w (d ∷ ds) es ≡ listed w ds es
unfolding Above
listed_after w d ds [] a = refl
listed_after w d ds (e ∷ es) a =
    ap₂ (λ (n : ℕ) (ls : List Interval). cond (ltb (resolved_begin_of w e) n) (record { number = e.number; begin = resolved_begin_of w e; end = n; content = e.content } ∷ ls) ls)
    (end_after w d ds e a.0) (listed_after w d ds es a.1)

min_swap : (a b c : ℕ) → min a (min b c) ≡ min b (min a c)
min_swap a b c = omega arith

-- all greater: the least of them
end_least : (w : Window) (d : Document) (ds : List Document) (l : ℕ) → own_end_of w d ≤ l → Above d.number ds → resolved_end_of w ds d ≡ min (own_end_of w d) (least_of w l ds)
unfolding Above
end_least w d [] l h a = omega arith
end_least w d (e ∷ ds) l h a =
    cond-true (ltb d.number e.number) _ _ (lt-ltb _ _ a.0)
    ∙ ap (λ n. min (resolved_begin_of w e) n) (end_least w d ds l h a.1)
    ∙ min_swap (resolved_begin_of w e) (own_end_of w d) (least_of w l ds)

end_first : (w : Window) (d : Document) (ds : List Document) (l : ℕ) → own_end_of w d ≤ l → Above d.number ds → resolved_end_of w (d ∷ ds) d ≡ min (own_end_of w d) (least_of w l ds)
end_first w d ds l h a = cond-false (ltb d.number d.number) _ _ (le-ltb _ _ (omega arith)) ∙ end_least w d ds l h a

pub own_within : (w : Window) (d : Document) → own_end_of w d ≤ w.end
own_within w d = cut w.end d.end (plus (resolved_begin_of w d) d.dur)
  where
    cut : (a : ℕ) (b c : Option ℕ) → earlier_of (earlier_of a b) c ≤ a
    cut a None None = omega arith
    cut a None (Some y) = omega arith
    cut a (Some x) None = omega arith
    cut a (Some x) (Some y) = omega arith

cond_append : (b : Bool) (x : Interval) (xs : List Interval) → cond b (x ∷ xs) xs ≡ cond b (x ∷ []) [] ++ xs
cond_append true x xs = refl
cond_append false x xs = refl

pub rising : (w : Window) (lim n a : ℕ) (ds : List Document) → orderly lim n a ds ≡ true → listed w ds ds ≡ intervals_before w w.end ds
rising w lim n a [] h = refl
rising w lim n a (d ∷ ds) h =
    let f = orderly_facts lim n a d ds h in
    let up = above-orderly lim d.number d.available ds f.rest in
    ap₂ (λ (n : ℕ) (ls : List Interval). cond (ltb (resolved_begin_of w d) n) (record { number = d.number; begin = resolved_begin_of w d; end = n; content = d.content } ∷ ls) ls)
    (end_first w d ds w.end (own_within w d) up)
    (listed_after w d ds ds up ∙ rising w lim d.number d.available ds f.rest)
    ∙ cond_append (ltb (resolved_begin_of w d) (min (own_end_of w d) (least_of w w.end ds))) (cut_interval w (least_of w w.end ds) d) (intervals_before w w.end ds)

-- Before a document that is not there, nothing is left out: no proof here cites it; proofs of a host's own may.
pub intervals_past : (w : Window) (l : ℕ) (ds : List Document) (p i : ℕ) → None ≡ slice_get ds i → p ≡ i + 1 → intervals_before w l (take p ds) ≡ intervals_before w l (take i ds)
intervals_past w l ds p i e s =
    let h : length ds ≤ i = past ds i e in
    ap (intervals_before w l) (take_all p ds (omega arith) ∙ sym (take_all i ds h))
  where
    past : (ds : List Document) (i : ℕ) → None ≡ slice_get ds i → length ds ≤ i
    past [] i e = omega arith
    past (d ∷ ds) zero e = let z : ◌≡◌ {A = ℕ} 0 1 = cc in absurd (omega arith)
    past (d ∷ ds) (suc i) e = omega (arith, past ds i e)

-- the whole walk
pub schedule_walk : (w : Window) (lim l : ℕ) (ds es : List Document) → orderly lim 0 0 es ≡ true → ds ≡ es → l ≡ w.end → intervals_before w l ds ≡ schedule_of w es
schedule_walk w lim l ds es h e f = ap₂ (λ (k : ℕ) (xs : List Document). intervals_before w k xs) f e ∙ sym (rising w lim 0 0 es h)
