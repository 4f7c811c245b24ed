-- Several nodes as one stream.
use Rattle.std.specs.Prelude.{◌≡◌, ℕ, ◌+◌, List, [], ◌∷◌, take}
use Rattle.std.proofs.Common.{ap}
use Rattle.documents.specs.declared.document.Document.{Document}
use Rattle.streams.specs.Streams.{Parts, Lawful}
use Rattle.streams.specs.Stacks.{Delay, holding, retiming, adjustment, altered, delayed, stack}
use Rattle.nodes.specs.declared.delay.pile.Node.{Node}
use Rattle.nodes.specs.declared.delay.pile.Node.TheVariants.{Holder, Retimer}
use Rattle.nodes.specs.declared.delay.pile.Nodes.{Nodes}
use Rattle.nodes.specs.Delays.{delayed_lawful}

-- a node's kind and approved adjustment
abbrev pub delay_of : Node → Delay
delay_of (Holder a) = holding a.amount
delay_of (Retimer a) = retiming a.amount

-- the nodes that stand, the lowest first
abbrev pub standing : Nodes → List Node
standing ns = take ns.count ns.nodes

-- the parts of nodes over a stream of the parts p, the lowest first
abbrev pub pile_parts : List Node → Parts → Parts
pile_parts [] p = p
pile_parts (n ∷ ns) p = pile_parts ns (delayed (delay_of n) p)

-- these nodes on top of others, the uppermost first
abbrev pub pile_nodes : List Node → List Delay → List Delay
pile_nodes [] ks = ks
pile_nodes (n ∷ ns) ks = pile_nodes ns (delay_of n ∷ ks)

-- the total of nodes over a stream of this total
abbrev pub pile_total : List Node → ℕ → ℕ
pile_total [] total = total
pile_total (n ∷ ns) total = pile_total ns (total + adjustment (delay_of n) total)

-- a document as nodes over a stream of this total show it
abbrev pub pile_altered : List Node → ℕ → Document → Document
pile_altered [] total x = x
pile_altered (n ∷ ns) total x = pile_altered ns (total + adjustment (delay_of n) total) (altered (delay_of n) (adjustment (delay_of n) total) x)

pub pile_lawful : (ns : List Node) (p : Parts) → Lawful p → Lawful (pile_parts ns p)
pile_lawful [] p h = h
pile_lawful (n ∷ ns) p h = pile_lawful ns (delayed (delay_of n) p) (delayed_lawful (delay_of n) p h)

pub pile_stacked : (ns : List Node) (ks : List Delay) (p b : Parts) → p ≡ stack ks b → pile_parts ns p ≡ stack (pile_nodes ns ks) b
pile_stacked [] ks p b e = e
pile_stacked (n ∷ ns) ks p b e = pile_stacked ns (delay_of n ∷ ks) (delayed (delay_of n) p) b (ap (delayed (delay_of n)) e)
