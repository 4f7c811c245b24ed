-- A schedule keeps its laws.
use Rattle.std.proofs.Common.{◌≡◌, ℕ, ◌<◌, ◌≤◌, min, true, ltb, List, [], ◌∷◌, ◌++◌, sym, refl, ap, subst, inl, inr, ⊎_elim, arith}
use Rattle.std.proofs.lemmas.Bool.{ltb-true, cond_both}
use Rattle.documents.specs.declared.document.Document.{Document}
use Rattle.streams.specs.Streams.{orderly}
use Rattle.streams.specs.Fronts.{orderly_facts}
use Rattle.questions.specs.declared.window.Window.{Window}
use Rattle.questions.specs.declared.schedule.Interval.{Interval}
use Rattle.questions.specs.Resolved.{resolved_begin_of, own_end_of}
use Rattle.questions.specs.Schedules.{schedule_of, ◌∈◌, Follow, OnScreen, Timetable}
use Rattle.questions.specs.Walks.{least_of, cut_interval, intervals_before}
use Rattle.questions.proofs.Backward.{Above, above-orderly, own_within, rising}

follow-earlier : (n k j : ℕ) (is : List Interval) → j ≤ k → Follow n k is → Follow n j is
follow-earlier n k j [] h f = tt
follow-earlier n k j (i ∷ is) h f = (f.0, omega (arith, f.1), follow-earlier n k j is h f.2)

-- the intervals of documents above n begin at the least resolved begin or later
followers : (w : Window) (l n : ℕ) (ds : List Document) → Above n ds → Follow n (least_of w l ds) (intervals_before w l ds)
unfolding Above
followers w l n [] a = tt
followers w l n (e ∷ es) a =
    let k : ℕ = least_of w l es in
    let rest = follow-earlier n k (min (resolved_begin_of w e) k) (intervals_before w l es) (omega arith) (followers w l n es a.1) in
    cond_both (ltb (resolved_begin_of w e) (min (own_end_of w e) k)) (cut_interval w k e ∷ []) [] (λ (xs : List Interval). Follow n (min (resolved_begin_of w e) k) (xs ++ intervals_before w l es))
    (λ _. (a.0, omega arith, rest))
    (λ _. rest)

least_below : (w : Window) (l : ℕ) (ds : List Document) (e : Document) → e ∈ ds → least_of w l ds ≤ resolved_begin_of w e
least_below w l [] e m = absurd m
least_below w l (d ∷ ds) e m =
    ⊎_elim
    (λ (same : e ≡ d). let h = ap (resolved_begin_of w) same in omega (arith, h))
    (λ (later : e ∈ ds). omega (arith, least_below w l ds e later))
    m

-- a document with a smaller number changes nothing
widen : (w : Window) (d : Document) (ds : List Document) (i : Interval) → d.number < i.number → OnScreen w ds i → OnScreen w (d ∷ ds) i
widen w d ds i h o = record {
  after = o.after;
  before = o.before;
  document = o.document;
  among = inr o.among;
  number = o.number;
  content = o.content;
  begun = o.begun;
  greatest = λ t b l e m g. ⊎_elim (λ (same : e ≡ d). let n = ap (λ (x : Document). x.number) same in omega (arith, n)) (λ (later : e ∈ ds). o.greatest t b l e later g) m;
}

extend : (w : Window) (d : Document) (ds : List Document) (k : ℕ) (is : List Interval) → Follow d.number k is → Timetable w ds is → Timetable w (d ∷ ds) is
extend w d ds k [] f t = tt
extend w d ds k (i ∷ is) f t = (t.0, t.1, widen w d ds i f.0 t.2, extend w d ds k is f.2 t.3)

-- the first document of a list, cut by those after it
first_shown : (w : Window) (l : ℕ) (d : Document) (ds : List Document) → OnScreen w (d ∷ ds) (cut_interval w (least_of w l ds) d)
first_shown w l d ds = record {
  after = omega arith;
  before = omega (arith, own_within w d);
  document = d;
  among = inl refl;
  number = refl;
  content = refl;
  begun = λ t h. h;
  greatest = λ t b h e m g. ⊎_elim
      (λ (same : e ≡ d). let n = ap (λ (x : Document). x.number) same in omega (arith, n))
      (λ (later : e ∈ ds). absurd (omega (arith, least_below w l ds e later)))
      m;
}

timetable_before : (w : Window) (l lim n a : ℕ) (ds : List Document) → orderly lim n a ds ≡ true → Timetable w ds (intervals_before w l ds)
timetable_before w l lim n a [] h = tt
timetable_before w l lim n a (d ∷ ds) h =
    let f = orderly_facts lim n a d ds h in
    let k : ℕ = least_of w l ds in
    let after = followers w l d.number ds (above-orderly lim d.number d.available ds f.rest) in
    let rest = extend w d ds k (intervals_before w l ds) after (timetable_before w l lim d.number d.available ds f.rest) in
    cond_both (ltb (resolved_begin_of w d) (min (own_end_of w d) k)) (cut_interval w k d ∷ []) [] (λ (xs : List Interval). Timetable w (d ∷ ds) (xs ++ intervals_before w l ds))
    (λ t. (ltb-true _ _ t, follow-earlier d.number k (min (own_end_of w d) k) (intervals_before w l ds) (omega arith) after, first_shown w l d ds, rest))
    (λ _. rest)

pub timetable : (w : Window) (lim : ℕ) (ds : List Document) → orderly lim 0 0 ds ≡ true → Timetable w ds (schedule_of w ds)
timetable w lim ds h = subst (Timetable w ds) (sym (rising w lim 0 0 ds h)) (timetable_before w w.end lim 0 0 ds h)
