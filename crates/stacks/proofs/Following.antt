-- A list sent to a stack is the list sent to the bare stream; and a loop that sends it.
use Rattle.std.proofs.Common.{◌≡◌, ℕ, zero, suc, ◌+◌, ◌<◌, ◌≤◌, false, eqb, List, [], ◌∷◌, ◌++◌, map, length, get_or, take, drop, set, Some, None, Option, sym, refl, ap, ◌∙◌, arith}
use Rattle.std.specs.List.{slice_get}
use Rattle.std.proofs.lemmas.Bool.{cond_both}
use Rattle.std.proofs.lemmas.List.{at_drop_more, at_drop_all, drop_more, drop_all, take_more_set, map_push, append_assoc, append-nil}
use Rattle.fields.specs.Faults.{Told, fine, refused, then}
use Rattle.documents.specs.declared.document.Document.{Document}
use Rattle.documents.specs.Reading.{read_document_of}
use Rattle.streams.specs.Streams.{Parts, Entry}
use Rattle.streams.specs.Stacks.{Delay, altered, adjustment, delayed_entry, delayed, stack}
use Rattle.streams.specs.Taking.{take_refusal_by, taken, tick_refusal_by, ticked, after_take_at, after_tick_at, take_refusal}
use Rattle.streams.specs.Handing.{take_told, after_read}
use Rattle.nodes.proofs.Commutes.{refusal-delayed, after-delayed, tick-refusal-delayed, tick-delayed}
use Rattle.stacks.specs.declared.calls.Call.{Call}
use Rattle.stacks.specs.declared.calls.Call.TheVariants.{HandIn, Take, Tick, Active, Interval}
use Rattle.stacks.specs.declared.calls.Reply.{Reply}
use Rattle.stacks.specs.Calls.{told_reply, asks, answered, handed_answer, reply_at, reply, follow, run, replies, PromptCall, PromptRun}
use Rattle.stacks.specs.Promise.{Alike}

-- A call sent to a node is the call sent to the stream below.
read_delayed : (k : Delay) (p : Parts) (t : Told Document) → delayed k (after_read p t) ≡ after_read (delayed k p) t
read_delayed k p (fine x) = after-delayed k p x
read_delayed k p (refused n l o c) = refl

follow-delayed : (k : Delay) (p : Parts) (c : Call) → delayed k (follow p c) ≡ follow (delayed k p) c
follow-delayed k p (HandIn text) = read_delayed k p (read_document_of text.now)
follow-delayed k p (Take x) = after-delayed k p x
follow-delayed k p (Tick t) = tick-delayed k p t
follow-delayed k p (Active w t) = refl
follow-delayed k p (Interval w n) = refl

follow_stacked : (ks : List Delay) (p : Parts) (c : Call) → follow (stack ks p) c ≡ stack ks (follow p c)
follow_stacked [] p c = refl
follow_stacked (k ∷ ks) p c = sym (follow-delayed k (stack ks p) c) ∙ ap (delayed k) (follow_stacked ks p c)

pub run_stacked : (ks : List Delay) (cs : List Call) (p : Parts) → run (stack ks p) cs ≡ stack ks (run p cs)
run_stacked ks [] p = refl
run_stacked ks (c ∷ cs) p = ap (λ (v : Parts). run v cs) (follow_stacked ks p c) ∙ run_stacked ks cs (follow p c)

-- A node answers hand-ins, takes and ticks as the stream below.
told-delayed : (k : Delay) (p : Parts) (t : Told Document) → then t (λ x. take_told (take_refusal (delayed k p) x)) ≡ then t (λ x. take_told (take_refusal p x))
told-delayed k p (fine x) = ap take_told (sym (refusal-delayed k p x))
told-delayed k p (refused n l o c) = refl

reply_at_lem : (k : Delay) (p : Parts) (f : Document → Document) (o : Option Entry) (c : Call) → asks c ≡ false → reply_at (delayed k p) (delayed_entry f o) c ≡ reply_at p o c
reply_at_lem k p f (Some e) (HandIn text) h = ap handed_answer (told-delayed k p (read_document_of text.now))
reply_at_lem k p f (Some e) (Take x) h = ap answered (sym (refusal-delayed k p x))
reply_at_lem k p f (Some e) (Tick t) h = ap answered (sym (tick-refusal-delayed k p t))
reply_at_lem k p f (Some e) (Active w t) h = cc
reply_at_lem k p f (Some e) (Interval w n) h = cc
reply_at_lem k p f None (HandIn text) h = refl
reply_at_lem k p f None (Take x) h = refl
reply_at_lem k p f None (Tick t) h = refl
reply_at_lem k p f None (Active w t) h = cc
reply_at_lem k p f None (Interval w n) h = cc

reply_stacked : (ks : List Delay) (p : Parts) (c : Call) → asks c ≡ false → reply (stack ks p) c ≡ reply p c
reply_stacked [] p c h = refl
reply_stacked (k ∷ ks) p c h =
    reply_at_lem k (stack ks p) (altered k (adjustment k (stack ks p).total)) (stack ks p).entry c h ∙ reply_stacked ks p c h

-- c, what takes were answered
pub alike : (ks : List Delay) (p : Parts) (calls : List Call) → Alike calls (replies (stack ks p) calls) (replies p calls)
alike ks p [] place call e h = refl
alike ks p (c ∷ calls) zero call e h = let ec : c ≡ call = cc in ap Some (reply_stacked ks p c (ap asks ec ∙ h))
alike ks p (c ∷ calls) (suc place) call e h =
    ap (λ (v : Parts). slice_get (replies v calls) place) (follow_stacked ks p c) ∙ alike ks (follow p c) calls place call e h

-- Calls keep the total.
total_take : (p : Parts) (o : Option Entry) (x : Document) → (after_take_at p o x).total ≡ p.total
total_take p (Some e) x = cond_both (eqb (take_refusal_by p e x) 0) (taken p e x) p (λ (v : Parts). v.total ≡ p.total) (λ _. refl) (λ _. refl)
total_take p None x = refl

total_tick : (p : Parts) (o : Option Entry) (t : ℕ) → (after_tick_at p o t).total ≡ p.total
total_tick p (Some e) t = cond_both (eqb (tick_refusal_by e t) 0) (ticked p e t) p (λ (v : Parts). v.total ≡ p.total) (λ _. refl) (λ _. refl)
total_tick p None t = refl

total_read : (p : Parts) (t : Told Document) → (after_read p t).total ≡ p.total
total_read p (fine x) = total_take p p.entry x
total_read p (refused n l o c) = refl

total_follow : (p : Parts) (c : Call) → (follow p c).total ≡ p.total
total_follow p (HandIn text) = total_read p (read_document_of text.now)
total_follow p (Take x) = total_take p p.entry x
total_follow p (Tick t) = total_tick p p.entry t
total_follow p (Active w t) = refl
total_follow p (Interval w n) = refl

pub total_run : (p : Parts) (calls : List Call) → (run p calls).total ≡ p.total
total_run p [] = refl
total_run p (c ∷ calls) = total_run (follow p c) calls ∙ total_follow p c

-- One call of a list.
pub run_more : (p p' : Parts) (cs : List Call) (i : ℕ) (d : Call) → i < length cs → p' ≡ follow p (get_or cs i d) → run p' (drop (i + 1) cs) ≡ run p (drop i cs)
run_more p p' cs i d h e = ap (λ (v : Parts). run v (drop (i + 1) cs)) e ∙ sym (at_drop_more (run p) cs i d h)

pub answers_more : (p p' : Parts) (cs : List Call) (rs : List Reply) (i : ℕ) (d : Call) (r : Reply) → i < length cs → i < length rs → p' ≡ follow p (get_or cs i d) → told_reply r ≡ reply p (get_or cs i d) → map told_reply (take (i + 1) (set rs i r)) ++ replies p' (drop (i + 1) cs) ≡ map told_reply (take i rs) ++ replies p (drop i cs)
answers_more p p' cs rs i d r h k e a =
    let t : take (i + 1) (set rs i r) ≡ take i rs ++ r ∷ [] = take_more_set rs i r k in
    let q = at_drop_more (replies p) cs i d h in
    rw (t, map_push, append_assoc, e, a, q)

pub answers_all : (p : Parts) (cs : List Call) (rs : List Reply) (i : ℕ) → length cs ≤ i → i ≤ length cs → map told_reply (take i rs) ++ replies p (drop i cs) ≡ map told_reply (take (length cs) rs)
answers_all p cs rs i h k =
    let e : i ≡ length cs = omega arith in
    let q = at_drop_all (replies p) cs i h in
    rw (q, append-nil, e)

pub prompt_more : (p p' : Parts) (cs : List Call) (i : ℕ) (d : Call) → i < length cs → p' ≡ follow p (get_or cs i d) → PromptCall p (get_or cs i d) → PromptRun p' (drop (i + 1) cs) → PromptRun p (drop i cs)
prompt_more p p' cs i d h e a rest = rw (drop_more cs i d h) (a, rw e at rest)

pub prompt_all : (p : Parts) (cs : List Call) (i : ℕ) → length cs ≤ i → PromptRun p (drop i cs)
prompt_all p cs i h = rw (drop_all i cs h) tt
