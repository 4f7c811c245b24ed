-- A node that is chosen at run time.
use Rattle.std.specs.Prelude.{◌≡◌, ℕ, List, ◌∷◌, Some, None, Option}
use Rattle.std.proofs.Common.{ap}
use Rattle.documents.specs.declared.document.Document.{Document}
use Rattle.streams.specs.Streams.{Parts, Lawful}
use Rattle.streams.specs.Stacks.{Delay, adjustment, altered, delayed, stack}
use Rattle.nodes.specs.declared.delay.pile.Node.{Node}
use Rattle.nodes.specs.Delays.{delayed_lawful}
use Rattle.nodes.specs.Piles.{delay_of}

-- the adjustment in force over a stream of this total
abbrev pub chosen_by : Option Node → ℕ → ℕ
chosen_by None total = 0
chosen_by (Some n) total = adjustment (delay_of n) total

-- a document of the stream below
abbrev pub chosen_alter : Option Node → ℕ → Document → Document
chosen_alter None total x = x
chosen_alter (Some n) total x = altered (delay_of n) (adjustment (delay_of n) total) x

-- the parts over a stream of the parts p
abbrev pub chosen_parts : Option Node → Parts → Parts
chosen_parts None p = p
chosen_parts (Some n) p = delayed (delay_of n) p

-- the nodes on top of those below
abbrev pub chosen_nodes : Option Node → List Delay → List Delay
chosen_nodes None ks = ks
chosen_nodes (Some n) ks = delay_of n ∷ ks

pub chosen_lawful : (c : Option Node) (p : Parts) → Lawful p → Lawful (chosen_parts c p)
chosen_lawful None p h = h
chosen_lawful (Some n) p h = delayed_lawful (delay_of n) p h

pub chosen_stacked : (c : Option Node) (ks : List Delay) (p b : Parts) → p ≡ stack ks b → chosen_parts c p ≡ stack (chosen_nodes c ks) b
chosen_stacked None ks p b e = e
chosen_stacked (Some n) ks p b e = ap (delayed (delay_of n)) e
