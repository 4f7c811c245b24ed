-- A chosen node is a holder, a retimer or nothing.
-- No proof here cites these any more; proofs of a host's own may.
use Rattle.std.proofs.Common.{◌≡◌, ℕ, [], ◌∷◌, length, Some, None, Option, refl, ap, ◌∙◌}
use Rattle.std.specs.List.{slice_get}
use Rattle.documents.specs.declared.document.Document.{Document}
use Rattle.streams.specs.Streams.{Parts}
use Rattle.streams.specs.Stacks.{adjustment, altered}
use Rattle.streams.specs.Taking.{entry_moment_of, take_refusal, after_take, tick_refusal, after_tick, Prompt}
use Rattle.nodes.specs.declared.delay.pile.Node.{Node}
use Rattle.nodes.specs.Piles.{delay_of}
use Rattle.nodes.specs.Choosing.{chosen_alter, chosen_parts}
use Rattle.nodes.specs.Delays.{altered_at, altered_none}
use Rattle.nodes.proofs.Over.{over_count}
use Rattle.nodes.proofs.Commutes.{entry-delayed, refusal-delayed, after-delayed, prompt-delayed, tick-refusal-delayed, tick-delayed}

pub chosen_count : (c : Option Node) (p : Parts) → length p.shown ≡ length (chosen_parts c p).shown
chosen_count None p = refl
chosen_count (Some n) p = over_count (delay_of n ∷ []) p

pub chosen_at : (c : Option Node) (p : Parts) (i : ℕ) (x y : Document) → y ≡ chosen_alter c p.total x → Some x ≡ slice_get p.shown i → Some y ≡ slice_get (chosen_parts c p).shown i
chosen_at None p i x y e h = ap Some e ∙ h
chosen_at (Some n) p i x y e h = altered_at (altered (delay_of n)) (adjustment (delay_of n) p.total) (adjustment (delay_of n) p.total) p.shown i x y refl e h

pub chosen_none : (c : Option Node) (p : Parts) (i : ℕ) → None ≡ slice_get p.shown i → None ≡ slice_get (chosen_parts c p).shown i
chosen_none None p i h = h
chosen_none (Some n) p i h = altered_none (altered (delay_of n)) (adjustment (delay_of n) p.total) p.shown i h

pub chosen_entry : (c : Option Node) (p : Parts) → entry_moment_of (chosen_parts c p) ≡ entry_moment_of p
chosen_entry None p = refl
chosen_entry (Some n) p = entry-delayed (delay_of n) p

pub chosen_refusal : (c : Option Node) (p : Parts) (x : Document) → take_refusal p x ≡ take_refusal (chosen_parts c p) x
chosen_refusal None p x = refl
chosen_refusal (Some n) p x = refusal-delayed (delay_of n) p x

pub chosen_after : (c : Option Node) (p : Parts) (x : Document) → chosen_parts c (after_take p x) ≡ after_take (chosen_parts c p) x
chosen_after None p x = refl
chosen_after (Some n) p x = after-delayed (delay_of n) p x

pub chosen_prompt : (c : Option Node) (p : Parts) (x : Document) → Prompt p x → Prompt (chosen_parts c p) x
chosen_prompt None p x h = h
chosen_prompt (Some n) p x h = prompt-delayed (delay_of n) p x h

pub chosen_tick_refusal : (c : Option Node) (p : Parts) (t : ℕ) → tick_refusal p t ≡ tick_refusal (chosen_parts c p) t
chosen_tick_refusal None p t = refl
chosen_tick_refusal (Some n) p t = tick-refusal-delayed (delay_of n) p t

pub chosen_tick : (c : Option Node) (p : Parts) (t : ℕ) → chosen_parts c (after_tick p t) ≡ after_tick (chosen_parts c p) t
chosen_tick None p t = refl
chosen_tick (Some n) p t = tick-delayed (delay_of n) p t
