-- What the code keeps of the elements so far. Only contracts of inner calls speak of it; the public
-- contract speaks of the list of elements, and a proof joins the two.
use Rattle.std.specs.Prelude.{ℕ, ◌+◌, List, [], ◌∷◌, None, slice_index_or, slice_set}
use Rattle.fields.specs.Faults.{Told, fine, refused, then}
use Rattle.fields.specs.Parts.{Part, first, rest}
use Rattle.documents.specs.Elements.{root, least_of, most_of}
use Rattle.documents.specs.Reading.{element, names, values, value_names, element_names}
use Rattle.documents.specs.declared.document.Document.{Document}
use Rattle.documents.specs.declared.element.Element.{Element}
use Rattle.documents.specs.declared.element.Outline.{Outline}
use Rattle.documents.specs.declared.text.Values.{Values}

-- before the first element
abbrev pub start : Outline
start = record { depth = 0; levels = root ∷ root ∷ root ∷ root ∷ root ∷ []; begin = None; end = None }

-- after one element more
abbrev pub grown : Outline → Element → Outline
grown o e = record { depth = e.depth; levels = slice_set o.levels e.depth e.computed; begin = least_of o.begin e.begin e.computed.begin; end = most_of o.end e.end e.computed.end }

-- an element line
abbrev pub element_after : ℕ → Outline → Part → Told Element
element_after line o p = element line o.depth (λ d. slice_index_or o.levels d root) p

-- the elements of lines from a line on
abbrev pub outlined : ℕ → Outline → List Part → Told Outline
outlined line o [] = fine o
outlined line o (p ∷ ps) = then (element_after line o p) (λ e. outlined (line + 1) (grown o e) ps)

-- all elements
abbrev pub outline_of : ℕ → List Part → Told Outline
outline_of len [] = refused 6 4 len 0
outline_of len (p ∷ ps) = outlined 4 start (p ∷ ps)

abbrev pub document_of : Values → Outline → Document
document_of v o = record { number = v.number; available = v.available; begin = o.begin; end = o.end; dur = v.dur; content = v.content }

-- a text by its lines
abbrev pub read_lines_of : ℕ → List Part → Told Document
read_lines_of len ps =
    then (names len 1 value_names (first ps)) (λ _.
    then (values len (first (rest ps))) (λ v.
    then (names len 3 element_names (first (rest (rest ps)))) (λ _.
    then (outline_of len (rest (rest (rest ps)))) (λ o.
    fine (document_of v o)))))
