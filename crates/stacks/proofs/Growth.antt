-- What was settled stays.
use Rattle.std.proofs.Common.{◌≡◌, ℕ, zero, suc, ◌<◌, ◌≤◌, min, Bool, true, false, cond, ◌&&◌, eqb, ltb, leb, List, [], ◌∷◌, ◌++◌, Some, None, Option, sym, refl, ap, ◌∙◌, ap₂, arith}
use mathlib.Core.Path.{fun_ext}
use Rattle.std.specs.Option.{option_map}
use Rattle.std.proofs.lemmas.Bool.{cond_both, ltb-true, leb-true, eqb-true, lt-ltb, le-leb, lt-leb}
use Rattle.std.proofs.lemmas.Bool.Decides.{nat_tests}
use Rattle.times.specs.Clock.{last_moment}
use Rattle.fields.specs.Faults as faults
use Rattle.fields.specs.Faults.{Told, fine}
use Rattle.documents.specs.declared.document.Document.{Document}
use Rattle.documents.specs.Reading.{read_document_of}
use Rattle.streams.specs.Streams.{Parts, Entry, due}
use Rattle.streams.specs.Taking.{take_refusal_by, taken, tick_refusal_by, ticked, after_take_at, after_tick_at, PromptAt, take_refusal, tick_refusal}
use Rattle.streams.specs.Handing.{after_read, prompt_read}
use Rattle.questions.specs.declared.window.Window.{Window}
use Rattle.questions.specs.Resolved.{resolved_begin_of, own_end_of, resolved_end_of}
use Rattle.questions.specs.Asking.{refused, active, interval, is_active, found, naming, interval_in}
use Rattle.stacks.specs.declared.calls.Call.{Call}
use Rattle.stacks.specs.declared.calls.Call.TheVariants.{HandIn, Take, Tick, Active, Interval}
use Rattle.stacks.specs.Calls.{marked, answered, handed_answer, asked_of, reply_at, reply, follow, run, replies, PromptCall, PromptRun}
use Rattle.stacks.specs.Promise.{Settles, Lasts}

-- one document more
end_more : (w : Window) (shown : List Document) (x d : Document)
    → (resolved_end_of w (shown ++ x ∷ []) d ≤ resolved_end_of w shown d) × (min (resolved_begin_of w x) (resolved_end_of w shown d) ≤ resolved_end_of w (shown ++ x ∷ []) d)
end_more w [] x d = cond_both (ltb d.number x.number) _ _ (λ r. (r ≤ own_end_of w d) × (min (resolved_begin_of w x) (own_end_of w d) ≤ r)) (λ _. omega arith) (λ _. omega arith)
end_more w (e ∷ shown) x d = let ih = end_more w shown x d in step (ltb d.number e.number) ih
  where
    step : (b : Bool) → (resolved_end_of w (shown ++ x ∷ []) d ≤ resolved_end_of w shown d) × (min (resolved_begin_of w x) (resolved_end_of w shown d) ≤ resolved_end_of w (shown ++ x ∷ []) d)
        → (cond b (min (resolved_begin_of w e) (resolved_end_of w (shown ++ x ∷ []) d)) (resolved_end_of w (shown ++ x ∷ []) d) ≤ cond b (min (resolved_begin_of w e) (resolved_end_of w shown d)) (resolved_end_of w shown d))
        × (min (resolved_begin_of w x) (cond b (min (resolved_begin_of w e) (resolved_end_of w shown d)) (resolved_end_of w shown d)) ≤ cond b (min (resolved_begin_of w e) (resolved_end_of w (shown ++ x ∷ []) d)) (resolved_end_of w (shown ++ x ∷ []) d))
    step true ih = omega arith
    step false ih = ih

due-begin : (w : Window) (d : Document) → due d ≤ resolved_begin_of w d
due-begin w d = omega arith

found_more : (p : Document → Bool) (ds es : List Document) (d : Document) → found p ds ≡ Some d → found p (ds ++ es) ≡ Some d
found_more p [] es d h = cc
found_more p (e ∷ ds) es d h = step (p e) h (found_more p ds es d)
  where
    step : (b : Bool) → cond b (Some e) (found p ds) ≡ Some d → (found p ds ≡ Some d → found p (ds ++ es) ≡ Some d) → cond b (Some e) (found p (ds ++ es)) ≡ Some d
    step true q ih = q
    step false q ih = ih q

found_past : (p : Document → Bool) (ds : List Document) (x : Document) → p x ≡ false → found p (ds ++ x ∷ []) ≡ found p ds
found_past p [] x h = simp h
found_past p (e ∷ ds) x h = ap (cond (p e) (Some e)) (found_past p ds x h)

active_past : (w : Window) (shown : List Document) (x : Document) (t : ℕ) → t < resolved_begin_of w x
    → found (is_active w (shown ++ x ∷ []) t) (shown ++ x ∷ []) ≡ found (is_active w shown t) shown
active_past w shown x t lt =
    let same : is_active w (shown ++ x ∷ []) t ≡ is_active w shown t = fun_ext (λ d. ap (λ (r : Bool). leb (resolved_begin_of w d) t && r) (test d (end_more w shown x d))) in
    rw same (found_past (is_active w shown t) shown x (ap (λ (r : Bool). r && ltb t (resolved_end_of w shown x)) (lt-leb (resolved_begin_of w x) t lt)))
  where
    test : (d : Document) → (resolved_end_of w (shown ++ x ∷ []) d ≤ resolved_end_of w shown d) × (min (resolved_begin_of w x) (resolved_end_of w shown d) ≤ resolved_end_of w (shown ++ x ∷ []) d)
        → ltb t (resolved_end_of w (shown ++ x ∷ []) d) ≡ ltb t (resolved_end_of w shown d)
    test d h = grind (arith, nat_tests)

active_same : (t s s' : ℕ) (f f' : Option (ℕ × ℕ)) (late : Bool) → (t < s → f' ≡ f) → s ≤ s' → marked (cond late (refused 15) (active f (ltb t s))) ≡ true
    → cond late (refused 15) (active f' (ltb t s')) ≡ cond late (refused 15) (active f (ltb t s))
active_same t s s' f f' true same le m = refl
active_same t s s' f f' false same le m =
    let lt = ltb-true t s m in ap₂ active (same lt) (lt-ltb t s' (omega arith) ∙ sym m)

interval_same : (w : Window) (p p' : Parts) (o : Option Document) → p.settled ≤ p'.settled
    → ((d : Document) → resolved_end_of w p.shown d ≤ p.settled → resolved_end_of w p'.shown d ≡ resolved_end_of w p.shown d)
    → marked (interval_in p w o) ≡ true → interval_in p' w o ≡ interval_in p w o
interval_same w p p' None le same m = refl
interval_same w p p' (Some d) le same m =
    let h = leb-true (resolved_end_of w p.shown d) p.settled m in
    let e = same d h in
    rw e (ap (interval (resolved_begin_of w d) (resolved_end_of w p.shown d)) (le-leb (resolved_end_of w p.shown d) p'.settled (omega arith) ∙ sym m))

marked_some : (w : Window) (p : Parts) (o : Option Document) → marked (interval_in p w o) ≡ true → (d : Document) × (o ≡ Some d)
marked_some w p None m = absurd (cc)
marked_some w p (Some d) m = (d, refl)

stays_taken : (p : Parts) (e : Entry) (x : Document) → p.settled ≤ due (e.appearance x) → (q : Call) → marked (asked_of p q) ≡ true → asked_of (taken p e x) q ≡ asked_of p q
stays_taken p e x h (HandIn text) m = refl
stays_taken p e x h (Take y) m = refl
stays_taken p e x h (Tick t) m = refl
stays_taken p e x h (Active w t) m =
    active_same t p.settled (taken p e x).settled _ _ (ltb last_moment t)
    (λ lt. ap (option_map naming) (active_past w p.shown (e.appearance x) t (omega (arith, h, due-begin w (e.appearance x)))))
    (omega arith) m
stays_taken p e x h (Interval w n) m =
    let p' = taken p e x in
    let there = marked_some w p (found (λ d. eqb d.number n) p.shown) m in
    let more = found_more (λ d. eqb d.number n) p.shown (e.appearance x ∷ []) there.0 there.1 in
    let still : found (λ d. eqb d.number n) p'.shown ≡ found (λ d. eqb d.number n) p.shown = more ∙ sym there.1 in
    ap (interval_in p' w) still
    ∙ interval_same w p p' (found (λ d. eqb d.number n) p.shown) (omega arith)
    (λ d k. omega (arith, end_more w p.shown (e.appearance x) d, h, due-begin w (e.appearance x))) m

stays_ticked : (p : Parts) (e : Entry) (k : ℕ) (q : Call) → marked (asked_of p q) ≡ true → asked_of (ticked p e k) q ≡ asked_of p q
stays_ticked p e k (HandIn text) m = refl
stays_ticked p e k (Take y) m = refl
stays_ticked p e k (Tick t) m = refl
stays_ticked p e k (Active w t) m = active_same t p.settled (ticked p e k).settled _ _ (ltb last_moment t) (λ _. refl) (omega arith) m
stays_ticked p e k (Interval w n) m = interval_same w p (ticked p e k) _ (omega arith) (λ _ _. refl) m

stays_take : (p : Parts) (o : Option Entry) (x : Document) → PromptAt p o x → (q : Call) → marked (asked_of p q) ≡ true → asked_of (after_take_at p o x) q ≡ asked_of p q
stays_take p (Some e) x h q m =
    cond_both (eqb (take_refusal_by p e x) 0) (taken p e x) p (λ (v : Parts). asked_of v q ≡ asked_of p q) (λ z. stays_taken p e x (h (eqb-true (take_refusal_by p e x) 0 z)) q m) (λ _. refl)
stays_take p None x h q m = refl

stays_tick : (p : Parts) (o : Option Entry) (t : ℕ) (q : Call) → marked (asked_of p q) ≡ true → asked_of (after_tick_at p o t) q ≡ asked_of p q
stays_tick p (Some e) t q m =
    cond_both (eqb (tick_refusal_by e t) 0) (ticked p e t) p (λ (v : Parts). asked_of v q ≡ asked_of p q) (λ _. stays_ticked p e t q m) (λ _. refl)
stays_tick p None t q m = refl

stays_read : (p : Parts) (r : Told Document) → prompt_read p r → (q : Call) → marked (asked_of p q) ≡ true → asked_of (after_read p r) q ≡ asked_of p q
stays_read p (fine x) h q m = stays_take p p.entry x h q m
stays_read p (faults.refused n l o c) h q m = refl

stays : (p : Parts) (c : Call) → PromptCall p c → (q : Call) → marked (asked_of p q) ≡ true → asked_of (follow p c) q ≡ asked_of p q
stays p (HandIn text) h q m = stays_read p (read_document_of text.now) h q m
stays p (Take x) h q m = stays_take p p.entry x h q m
stays p (Tick t) h q m = stays_tick p p.entry t q m
stays p (Active w t) h q m = refl
stays p (Interval w n) h q m = refl

-- what was settled before a list
pub lasts : (p : Parts) (calls : List Call) → PromptRun p calls → Lasts p (run p calls)
lasts p [] h q m = refl
lasts p (c ∷ calls) h q m =
    let e = stays p c h.0 q m in
    lasts (follow p c) calls h.1 q (ap marked e ∙ m) ∙ e

unmarked : (n : ℕ) → marked (answered n) ≡ true → ⊥
unmarked zero m = cc
unmarked (suc n) m = cc

unmarked_handed : (t : Told (Unit {0})) → marked (handed_answer t) ≡ true → ⊥
unmarked_handed (fine u) m = cc
unmarked_handed (faults.refused n l o c) m = cc

-- only questions are answered with the mark
asked_of_lem : (p : Parts) (o : Option Entry) (c : Call) → marked (reply_at p o c) ≡ true → reply_at p o c ≡ asked_of p c
asked_of_lem p None c m = refl
asked_of_lem p (Some e) (HandIn text) m = absurd (unmarked_handed _ m)
asked_of_lem p (Some e) (Take x) m = absurd (unmarked (take_refusal p x) m)
asked_of_lem p (Some e) (Tick t) m = absurd (unmarked (tick_refusal p t) m)
asked_of_lem p (Some e) (Active w t) m = refl
asked_of_lem p (Some e) (Interval w n) m = refl

-- b
pub settles : (p : Parts) (calls : List Call) → PromptRun p calls → Settles (run p calls) calls (replies p calls)
settles p [] h place call answer e f m = cc
settles p (c ∷ calls) h zero call answer e f m =
    let ec : c ≡ call = cc in
    let ea : reply p c ≡ answer = cc in
    let k : marked (reply p c) ≡ true = ap marked ea ∙ m in
    let is : reply p c ≡ asked_of p c = asked_of_lem p p.entry c k in
    ap (asked_of (run p (c ∷ calls))) (sym ec) ∙ lasts p (c ∷ calls) h c (ap marked (sym is) ∙ k) ∙ sym is ∙ ea
settles p (c ∷ calls) h (suc place) call answer e f m = settles (follow p c) calls h.1 place call answer e f m
