-- A stack that is only asked: its three parts.
use Rattle.std.specs.Prelude.{◌≡◌, List, [], ◌∷◌, None, refl}
use Rattle.std.proofs.Common.{ap, ◌∙◌}
use Rattle.streams.specs.Streams.{Parts, Lawful}
use Rattle.streams.specs.Stacks.{Delay, delayed, stack}

-- the parts without what takes
abbrev pub still : Parts → Parts
still p = record { shown = p.shown; settled = p.settled; total = p.total; entry = None }

pub still_lawful : (p : Parts) → Lawful p → Lawful (still p)
still_lawful p h = record { few = h.few; ordered = h.ordered; capped = h.capped; bounded = h.bounded; faithful = tt }

still-parts : (ks : List Delay) (p : Parts) → still (stack ks p) ≡ stack ks (still p)
still-parts [] p = refl
still-parts (k ∷ ks) p = ap (delayed k) (still-parts ks p)

pub still_stacked : (ks : List Delay) (p q : Parts) → p ≡ stack ks q → still p ≡ stack ks (still q)
still_stacked ks p q e = ap still e ∙ still-parts ks q
