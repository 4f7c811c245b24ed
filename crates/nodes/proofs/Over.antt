-- What is true of one node over a stream is true of several.
use Rattle.std.proofs.Common.{◌≡◌, ℕ, ◌+◌, ◌-◌, ◌≤◌, true, List, [], ◌∷◌, length, Some, None, sym, refl, ap, ◌∙◌, arith}
use Rattle.std.specs.List.{slice_get}
use Rattle.std.specs.Option.{option_map}
use Rattle.std.proofs.lemmas.Option.{slice_get-map}
use Rattle.std.proofs.lemmas.List.{length-map}
use Rattle.documents.specs.declared.document.Document.{Document}
use Rattle.streams.specs.Streams.{Parts, Lawful, timely}
use Rattle.streams.specs.Stacks.{Delay, holding, retiming, adjustment, altered, delayed, stack}
use Rattle.streams.specs.Taking.{entry_moment_of, take_refusal, after_take, tick_refusal, after_tick, Prompt}
use Rattle.nodes.specs.Delays.{timely-held, timely-retimed, timely_nth}
use Rattle.nodes.specs.Delayings.{total_of, altered_of}
use Rattle.nodes.proofs.Commutes.{entry-delayed, refusal-delayed, after-delayed, prompt-delayed, tick-refusal-delayed, tick-delayed}

pub over_count : (ks : List Delay) (p : Parts) → length p.shown ≡ length (stack ks p).shown
over_count [] p = refl
over_count (k ∷ ks) p = over_count ks p ∙ sym (length-map (stack ks p).shown (altered k (adjustment k (stack ks p).total)))

pub over_total : (ks : List Delay) (p : Parts) → total_of ks p.total ≡ (stack ks p).total
over_total [] p = refl
over_total (k ∷ ks) p = ap (λ (t : ℕ). t + adjustment k t) (over_total ks p)

pub total_least : (ks : List Delay) (t : ℕ) → t ≤ total_of ks t
total_least [] t = omega arith
total_least (k ∷ ks) t = omega (arith, total_least ks t)

pub total_most : (ks : List Delay) (t : ℕ) → t ≤ 4800000 → total_of ks t ≤ 4800000
total_most [] t h = h
total_most (k ∷ ks) t h = omega (arith, total_most ks t h)

settled_sum : (ks : List Delay) (p : Parts) → (stack ks p).settled + p.total ≡ p.settled + total_of ks p.total
settled_sum [] p = refl
settled_sum (k ∷ ks) p = omega (arith, settled_sum ks p, ap (adjustment k) (over_total ks p))

pub over_settled : (ks : List Delay) (p : Parts) → p.settled + (total_of ks p.total - p.total) ≡ (stack ks p).settled
over_settled ks p = omega (arith, settled_sum ks p, total_least ks p.total)

pub over_at : (ks : List Delay) (p : Parts) (i : ℕ) (x : Document) → slice_get p.shown i ≡ Some x → slice_get (stack ks p).shown i ≡ Some (altered_of ks p.total x)
over_at [] p i x e = e
over_at (k ∷ ks) p i x e =
    slice_get-map (altered k (adjustment k (stack ks p).total)) (stack ks p).shown i
    ∙ ap (option_map (altered k (adjustment k (stack ks p).total))) (over_at ks p i x e)
    ∙ ap (λ (t : ℕ). Some (altered k (adjustment k t) (altered_of ks p.total x))) (sym (over_total ks p))

pub over_none : (ks : List Delay) (p : Parts) (i : ℕ) → slice_get p.shown i ≡ None → slice_get (stack ks p).shown i ≡ None
over_none [] p i e = e
over_none (k ∷ ks) p i e =
    slice_get-map (altered k (adjustment k (stack ks p).total)) (stack ks p).shown i
    ∙ ap (option_map (altered k (adjustment k (stack ks p).total))) (over_none ks p i e)

-- a document that the stream below shows
pub timely_shown : (p : Parts) (l : Lawful p) (i : ℕ) (x : Document) → slice_get p.shown i ≡ Some x → timely (355199999 + p.total) x ≡ true
timely_shown p l i x e = timely_nth (355199999 + p.total) 0 0 p.shown i x l.ordered e

-- a document stays within the limit that grows with the total
pub timely-altered : (k : Delay) (total : ℕ) (x : Document) → timely (355199999 + total) x ≡ true → timely (355199999 + (total + adjustment k total)) (altered k (adjustment k total) x) ≡ true
timely-altered (holding a) total x h = timely-held _ (355199999 + total) _ x (omega arith) h
timely-altered (retiming a) total x h = timely-retimed _ (355199999 + total) _ x (omega arith) h

pub timely_over : (ks : List Delay) (total : ℕ) (x : Document) → timely (355199999 + total) x ≡ true → timely (355199999 + total_of ks total) (altered_of ks total x) ≡ true
timely_over [] total x h = h
timely_over (k ∷ ks) total x h = timely-altered k (total_of ks total) (altered_of ks total x) (timely_over ks total x h)

pub over_entry : (ks : List Delay) (p : Parts) → entry_moment_of (stack ks p) ≡ entry_moment_of p
over_entry [] p = refl
over_entry (k ∷ ks) p = entry-delayed k (stack ks p) ∙ over_entry ks p

pub over_refusal : (ks : List Delay) (p : Parts) (x : Document) → take_refusal p x ≡ take_refusal (stack ks p) x
over_refusal [] p x = refl
over_refusal (k ∷ ks) p x = over_refusal ks p x ∙ refusal-delayed k (stack ks p) x

pub over_after : (ks : List Delay) (p : Parts) (x : Document) → stack ks (after_take p x) ≡ after_take (stack ks p) x
over_after [] p x = refl
over_after (k ∷ ks) p x = ap (delayed k) (over_after ks p x) ∙ after-delayed k (stack ks p) x

pub over_prompt : (ks : List Delay) (p : Parts) (x : Document) → Prompt p x → Prompt (stack ks p) x
over_prompt [] p x h = h
over_prompt (k ∷ ks) p x h = prompt-delayed k (stack ks p) x (over_prompt ks p x h)

pub over_tick_refusal : (ks : List Delay) (p : Parts) (t : ℕ) → tick_refusal p t ≡ tick_refusal (stack ks p) t
over_tick_refusal [] p t = refl
over_tick_refusal (k ∷ ks) p t = over_tick_refusal ks p t ∙ tick-refusal-delayed k (stack ks p) t

pub over_tick : (ks : List Delay) (p : Parts) (t : ℕ) → stack ks (after_tick p t) ≡ after_tick (stack ks p) t
over_tick [] p t = refl
over_tick (k ∷ ks) p t = ap (delayed k) (over_tick ks p t) ∙ tick-delayed k (stack ks p) t
