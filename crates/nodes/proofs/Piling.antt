-- The nodes of a pile as delay nodes over a stream.
use Rattle.std.proofs.Common.{◌≡◌, ℕ, ◌+◌, ◌-◌, ◌<◌, ◌≤◌, min, true, List, [], ◌∷◌, ◌++◌, length, get_or, take, drop, Some, None, sym, refl, ap, ◌∙◌, ⊎_elim, arith}
use Rattle.std.specs.List.{slice_get}
use Rattle.std.proofs.lemmas.List.{take_all, take_more, at_drop_more}
use Rattle.std.proofs.lemmas.Bool.{cases_lt}
use Rattle.documents.specs.declared.document.Document.{Document}
use Rattle.streams.specs.Streams.{Parts, timely}
use Rattle.streams.specs.Stacks.{Delay, approved, adjustment, altered, stack}
use Rattle.streams.specs.Taking.{entry_moment_of, take_refusal, after_take, tick_refusal, after_tick, Prompt}
use Rattle.nodes.specs.declared.delay.pile.Node.{Node}
use Rattle.nodes.specs.Piles.{delay_of, pile_parts, pile_nodes, pile_total, pile_altered}
use Rattle.nodes.specs.Delayings.{total_of, altered_of}
use Rattle.nodes.proofs.Over.{over_count, over_total, over_settled, over_at, over_none, timely-altered, over_entry, over_refusal, over_after, over_prompt, over_tick_refusal, over_tick}

pub pile_stack : (ns : List Node) (ks : List Delay) (p : Parts) → stack (pile_nodes ns ks) p ≡ pile_parts ns (stack ks p)
pile_stack [] ks p = refl
pile_stack (n ∷ ns) ks p = pile_stack ns (delay_of n ∷ ks) p

pub pile_over : (ns : List Node) (ks ms : List Delay) → pile_nodes ns ks ++ ms ≡ pile_nodes ns (ks ++ ms)
pile_over [] ks ms = refl
pile_over (n ∷ ns) ks ms = pile_over ns (delay_of n ∷ ks) ms

-- one node more on top
pile_push : (ns : List Node) (n : Node) (ks : List Delay) → pile_nodes (ns ++ n ∷ []) ks ≡ delay_of n ∷ pile_nodes ns ks
pile_push [] n ks = refl
pile_push (m ∷ ns) n ks = pile_push ns n (delay_of m ∷ ks)

pub pile_more : (xs : List Node) (i : ℕ) (d : Node) → i < length xs → pile_nodes (take (i + 1) xs) [] ≡ delay_of (get_or xs i d) ∷ pile_nodes (take i xs) []
pile_more xs i d h = ap (λ (ns : List Node). pile_nodes ns []) (take_more xs i d h) ∙ pile_push (take i xs) (get_or xs i d) []

-- No proof here cites the rest; proofs of a host's own may.

-- What is true of nodes over a stream is true of a pile.
total_stack : (ns : List Node) (ks : List Delay) (t : ℕ) → pile_total ns (total_of ks t) ≡ total_of (pile_nodes ns ks) t
total_stack [] ks t = refl
total_stack (n ∷ ns) ks t = total_stack ns (delay_of n ∷ ks) t

altered_stack : (ns : List Node) (ks : List Delay) (t : ℕ) (x : Document) → pile_altered ns (total_of ks t) (altered_of ks t x) ≡ altered_of (pile_nodes ns ks) t x
altered_stack [] ks t x = refl
altered_stack (n ∷ ns) ks t x = altered_stack ns (delay_of n ∷ ks) t x

pub pile_count : (ns : List Node) (p : Parts) → length p.shown ≡ length (pile_parts ns p).shown
pile_count ns p = over_count (pile_nodes ns []) p ∙ ap (λ (q : Parts). length q.shown) (pile_stack ns [] p)

pub pile_total_lem : (ns : List Node) (p : Parts) → pile_total ns p.total ≡ (pile_parts ns p).total
pile_total_lem ns p = total_stack ns [] p.total ∙ over_total (pile_nodes ns []) p ∙ ap (λ (q : Parts). q.total) (pile_stack ns [] p)

pub pile_settled : (ns : List Node) (p : Parts) → p.settled + (pile_total ns p.total - p.total) ≡ (pile_parts ns p).settled
pile_settled ns p = ap (λ (t : ℕ). p.settled + (t - p.total)) (total_stack ns [] p.total) ∙ over_settled (pile_nodes ns []) p ∙ ap (λ (q : Parts). q.settled) (pile_stack ns [] p)

pub pile_at : (ns : List Node) (p : Parts) (i : ℕ) (x : Document) → slice_get p.shown i ≡ Some x → slice_get (pile_parts ns p).shown i ≡ Some (pile_altered ns p.total x)
pile_at ns p i x e = ap (λ (q : Parts). slice_get q.shown i) (sym (pile_stack ns [] p)) ∙ over_at (pile_nodes ns []) p i x e ∙ ap Some (sym (altered_stack ns [] p.total x))

pub pile_none : (ns : List Node) (p : Parts) (i : ℕ) → slice_get p.shown i ≡ None → slice_get (pile_parts ns p).shown i ≡ None
pile_none ns p i e = ap (λ (q : Parts). slice_get q.shown i) (sym (pile_stack ns [] p)) ∙ over_none (pile_nodes ns []) p i e

pub pile_entry : (ns : List Node) (p : Parts) → entry_moment_of (pile_parts ns p) ≡ entry_moment_of p
pile_entry ns p = ap entry_moment_of (sym (pile_stack ns [] p)) ∙ over_entry (pile_nodes ns []) p

pub pile_refusal : (ns : List Node) (p : Parts) (x : Document) → take_refusal p x ≡ take_refusal (pile_parts ns p) x
pile_refusal ns p x = over_refusal (pile_nodes ns []) p x ∙ ap (λ (q : Parts). take_refusal q x) (pile_stack ns [] p)

pub pile_after : (ns : List Node) (p : Parts) (x : Document) → pile_parts ns (after_take p x) ≡ after_take (pile_parts ns p) x
pile_after ns p x = sym (pile_stack ns [] (after_take p x)) ∙ over_after (pile_nodes ns []) p x ∙ ap (λ (q : Parts). after_take q x) (pile_stack ns [] p)

pub pile_prompt : (ns : List Node) (p : Parts) (x : Document) → Prompt p x → Prompt (pile_parts ns p) x
pile_prompt ns p x h = rw (sym (pile_stack ns [] p)) (over_prompt (pile_nodes ns []) p x h)

pub pile_tick_refusal : (ns : List Node) (p : Parts) (t : ℕ) → tick_refusal p t ≡ tick_refusal (pile_parts ns p) t
pile_tick_refusal ns p t = over_tick_refusal (pile_nodes ns []) p t ∙ ap (λ (q : Parts). tick_refusal q t) (pile_stack ns [] p)

pub pile_tick : (ns : List Node) (p : Parts) (t : ℕ) → pile_parts ns (after_tick p t) ≡ after_tick (pile_parts ns p) t
pile_tick ns p t = sym (pile_stack ns [] (after_tick p t)) ∙ over_tick (pile_nodes ns []) p t ∙ ap (λ (q : Parts). after_tick q t) (pile_stack ns [] p)

-- the nodes that stand, in a row of eight
pub row_front : (n : ℕ) (xs : List Node) → length xs ≡ 8 → take (min n 8 - 0) xs ≡ take n xs
row_front n xs l =
    ⊎_elim (λ (h : n < 8). ap (λ k. take k xs) (omega arith)) (λ (h : 8 ≤ n). take_all (min n 8 - 0) xs (omega arith) ∙ sym (take_all n xs (omega arith))) (cases_lt n 8)

-- one node more
in_force_lem : (xs : List Node) (i total by amount : ℕ) (d : Node) → amount ≡ approved (delay_of (get_or xs i d)) → by ≡ min amount (4800000 - total) → by ≡ adjustment (delay_of (get_or xs i d)) total
in_force_lem xs i total by amount d e f = f ∙ ap (λ k. min k (4800000 - total)) e

pub total_more : (xs : List Node) (i total by amount : ℕ) (d : Node) → i < length xs → amount ≡ approved (delay_of (get_or xs i d)) → by ≡ min amount (4800000 - total)
    → pile_total (drop (i + 1) xs) (total + by) ≡ pile_total (drop i xs) total
total_more xs i total by amount d h e f =
    ap (λ k. pile_total (drop (i + 1) xs) (total + k)) (in_force_lem xs i total by amount d e f) ∙ sym (at_drop_more (λ (ns : List Node). pile_total ns total) xs i d h)

pub altered_more : (xs : List Node) (i total by amount : ℕ) (d : Node) (x y : Document) → i < length xs → amount ≡ approved (delay_of (get_or xs i d)) → by ≡ min amount (4800000 - total)
    → y ≡ altered (delay_of (get_or xs i d)) by x
    → pile_altered (drop (i + 1) xs) (total + by) y ≡ pile_altered (drop i xs) total x
altered_more xs i total by amount d x y h e f g =
    ap (pile_altered (drop (i + 1) xs) (total + by)) g
    ∙ ap (λ k. pile_altered (drop (i + 1) xs) (total + k) (altered (delay_of (get_or xs i d)) k x)) (in_force_lem xs i total by amount d e f)
    ∙ sym (at_drop_more (λ (ns : List Node). pile_altered ns total x) xs i d h)

pub timely_more_altered : (xs : List Node) (i total by amount : ℕ) (d : Node) (x y : Document) → amount ≡ approved (delay_of (get_or xs i d)) → by ≡ min amount (4800000 - total)
    → y ≡ altered (delay_of (get_or xs i d)) by x → timely (355199999 + total) x ≡ true → timely (355199999 + (total + by)) y ≡ true
timely_more_altered xs i total by amount d x y e f g t =
    let k = delay_of (get_or xs i d) in
    let b : by ≡ adjustment k total = in_force_lem xs i total by amount d e f in
    ap (timely (355199999 + (total + by))) g ∙ ap (λ j. timely (355199999 + (total + j)) (altered k j x)) b ∙ timely-altered k total x t
