-- What a node may do with a document that the stream below shows.
-- No proof here cites it any more; proofs of a host's own may.
use Rattle.std.proofs.Common.{◌≡◌, ℕ, ◌+◌, ◌-◌, ◌≤◌, min, true, Some, sym, arith}
use Rattle.std.specs.List.{slice_get}
use Rattle.documents.specs.declared.document.Document.{Document}
use Rattle.streams.specs.Streams.{Parts, Lawful, timely}
use Rattle.nodes.specs.Delays.{timely_more}
use Rattle.nodes.proofs.Over.{timely_shown}

pub alterable : (p : Parts) (l : Lawful p) (a d i : ℕ) (x : Document) → d ≡ min a (4800000 - p.total) → Some x ≡ slice_get p.shown i → (d ≤ 4800000) × (timely 359999999 x ≡ true)
alterable p l a d i x e h =
    (omega (arith, l.capped), timely_more (355199999 + p.total) 359999999 x (omega (arith, l.capped)) (timely_shown p l i x (sym h)))
