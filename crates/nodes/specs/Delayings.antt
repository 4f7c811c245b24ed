-- What delay nodes make of a total and of a document, which only inner contracts cite, and that a stream with nodes over it is lawful.
use Rattle.std.specs.Prelude.{◌≡◌, ℕ, ◌+◌, List, [], ◌∷◌, ◌++◌}
use Rattle.std.proofs.Common.{ap}
use Rattle.documents.specs.declared.document.Document.{Document}
use Rattle.streams.specs.Streams.{Parts, Lawful}
use Rattle.streams.specs.Stacks.{Delay, adjustment, altered, delayed, stack}
use Rattle.nodes.specs.Delays.{delayed_lawful}

-- the total of nodes, the uppermost first, over a stream of this total
abbrev pub total_of : List Delay → ℕ → ℕ
total_of [] total = total
total_of (k ∷ ks) total = total_of ks total + adjustment k (total_of ks total)

-- a document as nodes over a stream of this total show it
abbrev pub altered_of : List Delay → ℕ → Document → Document
altered_of [] total x = x
altered_of (k ∷ ks) total x = altered k (adjustment k (total_of ks total)) (altered_of ks total x)

pub stack_lawful : (ks : List Delay) (p : Parts) → Lawful p → Lawful (stack ks p)
stack_lawful [] p h = h
stack_lawful (k ∷ ks) p h = delayed_lawful k (stack ks p) (stack_lawful ks p h)

-- nodes over a stream of nodes
pub stack_over : (ks ms : List Delay) (p b : Parts) → p ≡ stack ms b → stack ks p ≡ stack (ks ++ ms) b
stack_over [] ms p b e = e
stack_over (k ∷ ks) ms p b e = ap (delayed k) (stack_over ks ms p b e)
