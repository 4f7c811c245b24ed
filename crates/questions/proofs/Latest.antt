-- The active document, by its interval, is the greatest number begun.
use Rattle.std.proofs.Common.{◌≡◌, ℕ, ◌+◌, ◌<◌, ◌≤◌, Bool, true, false, cond, ltb, leb, ◌⊎◌, List, [], ◌∷◌, Some, None, Option, sym, refl, ap, ◌∙◌, subst, ap₂, inl, inr, ⊎_elim, arith}
use Rattle.std.specs.Option.{option_map}
use Rattle.std.proofs.lemmas.Bool.{cond_both, both_ways, and_parts, and_from, ltb-true, ltb-false, leb-true, lt-ltb, le-leb, le-ltb, leb-false, cases_lt, cond-true, cond-false}
use Rattle.documents.specs.declared.document.Document.{Document}
use Rattle.questions.specs.declared.window.Window.{Window}
use Rattle.questions.specs.Resolved.{resolved_begin_of, own_end_of, resolved_end_of}
use Rattle.questions.specs.Schedules.{◌∈◌}
use Rattle.questions.specs.Asking.{is_active, found, naming, active_of, refused, active}
use Rattle.questions.specs.Begun.{begun_by, GreatestBegun, Greatest}
use Rattle.streams.specs.Streams.{Parts, Lawful, orderly}
use Rattle.streams.specs.Fronts.{orderly_facts}
use Rattle.times.specs.Clock.{last_moment}
use Rattle.questions.specs.Scans.{last_begun_of, unless_ended_of}

-- numbers begin above n, and rise
abbrev pub Rising : ℕ → List Document → Type 0
Rising n [] = Unit {0}
Rising n (d ∷ shown) = (n < d.number) × Rising d.number shown

pub rising_orderly : (l n a : ℕ) (shown : List Document) → orderly l n a shown ≡ true → Rising n shown
rising_orderly l n a [] h = tt
rising_orderly l n a (d ∷ shown) h =
    let f = orderly_facts l n a d shown h in (f.above, rising_orderly l d.number d.available shown f.rest)

pub false_by : (b : Bool) → (b ≡ true → ⊥) → b ≡ false
false_by true h = absurd (h refl)
false_by false h = refl

found_only : (p : Document → Bool) (d : Document) (ds : List Document) → d ∈ ds → p d ≡ true
    → ((e : Document) → e ∈ ds → p e ≡ true → e ≡ d) → found p ds ≡ Some d
found_only p d [] m pd only = absurd m
found_only p d (e ∷ ds) m pd only =
    cond_both (p e) (Some e) (found p ds) (λ r. r ≡ Some d) (λ q. ap Some (only e (inl refl) q))
    (λ q. ⊎_elim (λ de. absurd (both_ways (p e) q (sym (ap p de) ∙ pd)))
    (λ k. found_only p d ds k pd (λ x xm. only x (inr xm))) m)

found_none : (p : Document → Bool) (ds : List Document) → ((e : Document) → e ∈ ds → p e ≡ false) → found p ds ≡ None
found_none p [] h = refl
found_none p (e ∷ ds) h = rw (h e (inl refl)) (found_none p ds (λ x m. h x (inr m)))

pub end_own : (w : Window) (shown : List Document) (d : Document) → resolved_end_of w shown d ≤ own_end_of w d
end_own w [] d = omega arith
end_own w (e ∷ shown) d =
    cond_both (ltb d.number e.number) _ _ (λ r. r ≤ own_end_of w d) (λ _. omega (arith, end_own w shown d)) (λ _. end_own w shown d)

end_cut : (w : Window) (shown : List Document) (d e : Document) → e ∈ shown → d.number < e.number
    → resolved_end_of w shown d ≤ resolved_begin_of w e
end_cut w [] d e m lt = absurd m
end_cut w (x ∷ shown) d e m lt =
    cond_both (ltb d.number x.number) _ _ (λ r. r ≤ resolved_begin_of w e)
    (λ _. ⊎_elim (λ ex. rw ex (omega arith)) (λ k. omega (arith, end_cut w shown d e k lt)) m)
    (λ q. ⊎_elim (λ ex. omega (arith, ltb-false d.number x.number q, ap (λ (y : Document). y.number) ex)) (λ k. end_cut w shown d e k lt) m)

end_after : (w : Window) (shown : List Document) (d : Document) (t : ℕ) → t < own_end_of w d
    → ((e : Document) → e ∈ shown → d.number < e.number → t < resolved_begin_of w e) → t < resolved_end_of w shown d
end_after w [] d t own cuts = own
end_after w (x ∷ shown) d t own cuts =
    let rest : t < resolved_end_of w shown d = end_after w shown d t own (λ e m. cuts e (inr m)) in
    cond_both (ltb d.number x.number) _ _ (λ r. t < r)
    (λ q. omega (arith, cuts x (inl refl) (ltb-true d.number x.number q))) (λ _. rest)

rising_above : (n : ℕ) (shown : List Document) (d : Document) → Rising n shown → d ∈ shown → n < d.number
rising_above n [] d r m = absurd m
rising_above n (x ∷ shown) d r m =
    ⊎_elim (λ dx. omega (arith, r.0, ap (λ (y : Document). y.number) dx))
    (λ k. omega (arith, r.0, rising_above x.number shown d r.1 k)) m

same_number : (n : ℕ) (shown : List Document) (d e : Document) → Rising n shown → d ∈ shown → e ∈ shown
    → d.number ≡ e.number → d ≡ e
same_number n [] d e r dm em same = absurd dm
same_number n (x ∷ shown) d e r dm em same =
    ⊎_elim
    (λ dx. ⊎_elim (λ ex. dx ∙ sym ex)
    (λ k. absurd (omega (arith, rising_above x.number shown e r.1 k, ap (λ (y : Document). y.number) dx))) em)
    (λ j. ⊎_elim
    (λ ex. absurd (omega (arith, rising_above x.number shown d r.1 j, ap (λ (y : Document). y.number) ex)))
    (λ k. same_number x.number shown d e r.1 j k same) em)
    dm

module _ (w : Window) (shown : List Document) (t : ℕ) (r : Rising 0 shown) where
  active-facts : (e : Document) → is_active w shown t e ≡ true → (resolved_begin_of w e ≤ t) × (t < resolved_end_of w shown e)
  active-facts e h =
      let p = and_parts (leb (resolved_begin_of w e) t) (ltb t (resolved_end_of w shown e)) h in
      (leb-true (resolved_begin_of w e) t p.0, ltb-true t (resolved_end_of w shown e) p.1)

  -- what is active is the greatest number begun
  only-greatest : (d : Document) → GreatestBegun w shown t d → (e : Document) → e ∈ shown → is_active w shown t e ≡ true → e ≡ d
  only-greatest d g e m h =
      let f = active-facts e h in
      let low = g.greatest e m f.0 in
      ⊎_elim (λ lt. absurd (omega (arith, end_cut w shown e d g.among lt, g.begun)))
      (λ ge. same_number 0 shown e d r m g.among (omega arith)) (cases_lt e.number d.number)

  is-greatest : (d : Document) → GreatestBegun w shown t d → t < own_end_of w d → is_active w shown t d ≡ true
  is-greatest d g own =
      and_from _ _ (le-leb (resolved_begin_of w d) t g.begun)
      (lt-ltb t (resolved_end_of w shown d)
      (end_after w shown d t own
      (λ e m lt. ⊎_elim (λ x. x) (λ begun. absurd (omega (arith, g.greatest e m begun))) (cases_lt t (resolved_begin_of w e)))))

  found-greatest : (d : Document) → GreatestBegun w shown t d
      → found (is_active w shown t) shown ≡ cond (ltb t (own_end_of w d)) (Some d) None
  found-greatest d g =
      cond_both (ltb t (own_end_of w d)) (Some d) None (λ x. found (is_active w shown t) shown ≡ x)
      (λ q. found_only (is_active w shown t) d shown g.among (is-greatest d g (ltb-true t (own_end_of w d) q)) (only-greatest d g))
      (λ q. found_none (is_active w shown t) shown
      (λ e m. false_by _ (λ h.
      let f = subst (λ (x : Document). t < resolved_end_of w shown x) (only-greatest d g e m h) (active-facts e h).1 in
      omega (arith, end_own w shown d, ltb-false t (own_end_of w d) q, f))))

-- the last document begun is the greatest number begun
pub last_tells : (w : Window) (t n : ℕ) (o : Option Document) (shown : List Document) → Rising n shown
    → ((d : Document) × GreatestBegun w shown t d × (last_begun_of w t o shown ≡ Some d))
    ⊎ (((d : Document) → d ∈ shown → begun_by w t d → ⊥) × (last_begun_of w t o shown ≡ o))
last_tells w t n o [] r = inr (λ d m _. m, refl)
last_tells w t n o (x ∷ shown) r =
    ⊎_elim
    (λ g. inl (
      g.0,
      record {
        among = inr g.1.among;
        begun = g.1.begun;
        greatest = λ e m h. ⊎_elim (λ ex. omega (arith, ap (λ (y : Document). y.number) ex, rising_above x.number shown g.0 r.1 g.1.among)) (λ k. g.1.greatest e k h) m;
      },
      g.2,
    ))
    (λ none. here (leb (resolved_begin_of w x) t) refl none)
    (last_tells w t x.number (cond (leb (resolved_begin_of w x) t) (Some x) o) shown r.1)
  where
    here : (b : Bool) → leb (resolved_begin_of w x) t ≡ b
        → ((d : Document) → d ∈ shown → begun_by w t d → ⊥) × (last_begun_of w t (cond (leb (resolved_begin_of w x) t) (Some x) o) shown ≡ cond (leb (resolved_begin_of w x) t) (Some x) o)
        → ((d : Document) × GreatestBegun w (x ∷ shown) t d × (last_begun_of w t o (x ∷ shown) ≡ Some d))
        ⊎ (((d : Document) → d ∈ (x ∷ shown) → begun_by w t d → ⊥) × (last_begun_of w t o (x ∷ shown) ≡ o))
    here true e none =
        inl (
          x,
          record {
            among = inl refl;
            begun = leb-true (resolved_begin_of w x) t e;
            greatest = λ y m h. ⊎_elim (λ ex. omega (arith, ap (λ (y : Document). y.number) ex)) (λ k. absurd (none.0 y k h)) m;
          },
          none.1 ∙ cond-true (leb (resolved_begin_of w x) t) (Some x) o e,
        )
    here false e none =
        inr (
          λ y m h. ⊎_elim (λ ex. omega (arith, leb-false (resolved_begin_of w x) t e, subst (λ (y : Document). resolved_begin_of w y ≤ t) ex h)) (λ k. none.0 y k h) m,
          none.1 ∙ cond-false (leb (resolved_begin_of w x) t) (Some x) o e,
        )

mapped_cond : (b : Bool) (d : Document) → option_map naming (cond b (Some d) None) ≡ cond b (Some (naming d)) None
mapped_cond true d = refl
mapped_cond false d = refl

pub shows_greatest : (w : Window) (t : ℕ) (shown : List Document) → Rising 0 shown
    → Greatest w shown t (option_map naming (found (is_active w shown t) shown))
shows_greatest w t shown r =
    ⊎_elim
    (λ g. inl (
      g.0,
      g.1,
      ap (option_map naming) (found-greatest w shown t r g.0 g.1) ∙ mapped_cond (ltb t (own_end_of w g.0)) g.0,
    ))
    (λ none. inr (
      none.0,
      ap (option_map naming) (found_none (is_active w shown t) shown
          (λ e m. false_by _ (λ h. none.0 e m (active-facts w shown t r e h).0))),
    ))
    (last_tells w t 0 None shown r)

-- what the loop finds is what the intervals show
pub shows_last : (w : Window) (t : ℕ) (shown : List Document) → Rising 0 shown
    → unless_ended_of w t (last_begun_of w t None shown) ≡ option_map naming (found (is_active w shown t) shown)
shows_last w t shown r =
    ⊎_elim
    (λ g. ap (unless_ended_of w t) g.2 ∙ sym (ap (option_map naming) (found-greatest w shown t r g.0 g.1) ∙ mapped_cond (ltb t (own_end_of w g.0)) g.0))
    (λ none. ap (unless_ended_of w t) none.1 ∙ sym (ap (option_map naming) (found_none (is_active w shown t) shown (λ e m. false_by _ (λ h. none.0 e m (active-facts w shown t r e h).0)))))
    (last_tells w t 0 None shown r)

pub asked : (p : Parts) (w : Window) (t : ℕ) → t ≤ last_moment
    → active_of p w t ≡ active (option_map naming (found (is_active w p.shown t) p.shown)) (ltb t p.settled)
asked p w t h = cond-false (ltb last_moment t) (refused 15) _ (le-ltb last_moment t h)

pub active_answer : (p : Parts) → Lawful p → (w : Window) (t : ℕ) (last : Option Document) (shows : Option (ℕ × ℕ)) (settled : ℕ) → t ≤ last_moment
    → last ≡ last_begun_of w t None p.shown → shows ≡ unless_ended_of w t last → settled ≡ p.settled → active shows (ltb t settled) ≡ active_of p w t
active_answer p law w t last shows settled h e s m =
    ap₂ (λ (o : Option (ℕ × ℕ)) (n : ℕ). active o (ltb t n)) (s ∙ ap (unless_ended_of w t) e ∙ shows_last w t p.shown (rising_orderly (355199999 + p.total) 0 0 p.shown law.ordered)) m
    ∙ sym (asked p w t h)
