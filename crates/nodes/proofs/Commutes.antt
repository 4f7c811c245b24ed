-- A call sent to a node is the call sent to the stream below.
use Rattle.std.proofs.Common.{◌≡◌, ℕ, ◌+◌, ◌-◌, Bool, true, false, cond, eqb, ltb, leb, List, [], ◌∷◌, map, Some, None, Option, sym, refl, ap, ◌∙◌, arith}
use Rattle.std.proofs.lemmas.List.{map_push}
use Rattle.documents.specs.declared.document.Document.{Document}
use Rattle.streams.specs.Streams.{Parts, Entry, timely, later_of}
use Rattle.streams.specs.Stacks.{Delay, holding, retiming, altered, adjustment, later, delayed_entry, delayed}
use Rattle.streams.specs.Taking.{moment_in, entry_moment_of, last_from, take_refusal_by, taken, after_take_by, tick_refusal_by, ticked, after_tick_by, PromptBy, take_refusal_at, after_take_at, tick_refusal_at, after_tick_at, PromptAt, take_refusal, after_take, tick_refusal, after_tick, Prompt}

-- the entry of a node over a stream of this total
abbrev above : Delay → Parts → Entry → Entry
above k p e = record { moment = e.moment; left = e.left; appearance = λ x. altered k (adjustment k p.total) (e.appearance x) }

-- a node keeps the last number
last_altered : (k : Delay) (d n : ℕ) (xs : List Document) → last_from n (map (altered k d) xs) ≡ last_from n xs
last_altered k d n [] = refl
last_altered (holding a) d n (x ∷ xs) = last_altered (holding a) d x.number xs
last_altered (retiming a) d n (x ∷ xs) = last_altered (retiming a) d x.number xs

refusal_by : (k : Delay) (p : Parts) (e : Entry) (x : Document) → take_refusal_by p e x ≡ take_refusal_by (delayed k p) (above k p e) x
refusal_by k p e x =
    ap (λ (m : ℕ). cond (eqb x.number 0) 4 (cond (timely 355199999 x) (cond (ltb x.available e.moment) 8 (cond (leb x.number m) 9 (cond (eqb e.left 0) 10 0))) 7))
    (sym (last_altered k (adjustment k p.total) 0 p.shown))

taken_by : (k : Delay) (p : Parts) (e : Entry) (x : Document) → delayed k (taken p e x) ≡ taken (delayed k p) (above k p e) x
taken_by k p e x =
    let d = adjustment k p.total in
    let m = map_push (altered k d) p.shown (e.appearance x) in
    let s : (p.settled + (x.available - e.moment)) + d ≡ (p.settled + d) + (x.available - e.moment) = omega arith in
    rw (m, s)

after_by : (k : Delay) (p : Parts) (e : Entry) (x : Document) → p.entry ≡ Some e → delayed k (after_take_by p e x) ≡ after_take_by (delayed k p) (above k p e) x
after_by k p e x is =
    let c : (t : Bool) → delayed k (cond t (taken p e x) p) ≡ cond t (taken (delayed k p) (above k p e) x) (delayed k p) =
    λ t. elim t as (λ v. delayed k (cond v (taken p e x) p) ≡ cond v (taken (delayed k p) (above k p e) x) (delayed k p)) [ true ↦ taken_by k p e x | false ↦ refl ] in
    c (eqb (take_refusal_by p e x) 0) ∙ ap (λ (m : ℕ). cond (eqb m 0) (taken (delayed k p) (above k p e) x) (delayed k p)) (refusal_by k p e x)

later-due : (d a : ℕ) (o : Option ℕ) → later_of (a + d) (later d o) ≡ later_of a o + d
later-due d a (Some t) = omega arith
later-due d a None = refl

prompt_by : (k : Delay) (p : Parts) (e : Entry) (x : Document) → PromptBy p e x → PromptBy (delayed k p) (above k p e) x
prompt_by (holding a) p e x h n =
    omega (arith, h (refusal_by (holding a) p e x ∙ n), later-due (adjustment (holding a) p.total) (e.appearance x).available (e.appearance x).begin)
prompt_by (retiming a) p e x h n = omega (arith, h (refusal_by (retiming a) p e x ∙ n))

tick_by : (k : Delay) (p : Parts) (e : Entry) (t : ℕ) → delayed k (after_tick_by p e t) ≡ after_tick_by (delayed k p) (above k p e) t
tick_by k p e t =
    let d = adjustment k p.total in
    let s : (p.settled + (t - e.moment)) + d ≡ (p.settled + d) + (t - e.moment) = omega arith in
    elim (eqb (tick_refusal_by e t) 0) as (λ v. delayed k (cond v (ticked p e t) p) ≡ cond v (ticked (delayed k p) (above k p e) t) (delayed k p)) [ true ↦ rw s | false ↦ refl ]

-- The same for the parts of any stream.
module _ (k : Delay) where
  entry_at : (f : Document → Document) (o : Option Entry) → moment_in (delayed_entry f o) ≡ moment_in o
  entry_at f (Some e) = refl
  entry_at f None = refl

  pub entry-delayed : (p : Parts) → entry_moment_of (delayed k p) ≡ entry_moment_of p
  entry-delayed p = entry_at (altered k (adjustment k p.total)) p.entry

  refusal-at : (p : Parts) (o : Option Entry) (x : Document) → take_refusal_at p o x ≡ take_refusal_at (delayed k p) (delayed_entry (altered k (adjustment k p.total)) o) x
  refusal-at p (Some e) x = refusal_by k p e x
  refusal-at p None x = refl

  pub refusal-delayed : (p : Parts) (x : Document) → take_refusal p x ≡ take_refusal (delayed k p) x
  refusal-delayed p x = refusal-at p p.entry x

  after-at : (p : Parts) (o : Option Entry) (x : Document) → p.entry ≡ o → delayed k (after_take_at p o x) ≡ after_take_at (delayed k p) (delayed_entry (altered k (adjustment k p.total)) o) x
  after-at p (Some e) x is = after_by k p e x is
  after-at p None x is = refl

  pub after-delayed : (p : Parts) (x : Document) → delayed k (after_take p x) ≡ after_take (delayed k p) x
  after-delayed p x = after-at p p.entry x refl

  prompt-at : (p : Parts) (o : Option Entry) (x : Document) → PromptAt p o x → PromptAt (delayed k p) (delayed_entry (altered k (adjustment k p.total)) o) x
  prompt-at p (Some e) x h = prompt_by k p e x h
  prompt-at p None x h = tt

  pub prompt-delayed : (p : Parts) (x : Document) → Prompt p x → Prompt (delayed k p) x
  prompt-delayed p x h = prompt-at p p.entry x h

  tick-refusal-at : (p : Parts) (o : Option Entry) (t : ℕ) → tick_refusal_at p o t ≡ tick_refusal_at (delayed k p) (delayed_entry (altered k (adjustment k p.total)) o) t
  tick-refusal-at p (Some e) t = refl
  tick-refusal-at p None t = refl

  pub tick-refusal-delayed : (p : Parts) (t : ℕ) → tick_refusal p t ≡ tick_refusal (delayed k p) t
  tick-refusal-delayed p t = tick-refusal-at p p.entry t

  tick-at : (p : Parts) (o : Option Entry) (t : ℕ) → delayed k (after_tick_at p o t) ≡ after_tick_at (delayed k p) (delayed_entry (altered k (adjustment k p.total)) o) t
  tick-at p (Some e) t = tick_by k p e t
  tick-at p None t = refl

  pub tick-delayed : (p : Parts) (t : ℕ) → delayed k (after_tick p t) ≡ after_tick (delayed k p) t
  tick-delayed p t = tick-at p p.entry t
