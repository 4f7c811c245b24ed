-- What a text means: for every list of bytes the document, or the refusal with its line, byte and cause.
use Rattle.std.specs.Prelude.{ℕ, ◌+◌, ◌-◌, cond, ◌&&◌, List, [], ◌∷◌, length, take, Some, None, codes, Option, ◌==◌, nat_le, slice_index}
use Rattle.std.specs.Str.{bytes_eq}
use Rattle.fields.specs.Faults.{Told, fine, refused, at, then, time_field_of}
use Rattle.fields.specs.Parts.{Part, parts, nth_part, first, rest}
use Rattle.fields.specs.Numbers.{number_field_of}
use Rattle.fields.specs.Levels.{level_field_of}
use Rattle.documents.specs.Elements.{time_at_of, computed_at_of, root, least_of, most_of}
use Rattle.documents.specs.declared.document.Document.{Document}
use Rattle.documents.specs.declared.element.Computed.{Computed}
use Rattle.documents.specs.declared.element.Element.{Element}
use Rattle.documents.specs.declared.text.Values.{Values}

-- the longest text
abbrev pub text_limit : ℕ
text_limit = 4096

-- the two names lines
abbrev pub value_names : List ℕ
value_names = codes "number,available,content,dur"

abbrev pub element_names : List ℕ
element_names = codes "level,begin,end"

-- a names line that is missing or different is 2
abbrev pub names : ℕ → ℕ → List ℕ → Option Part → Told (Unit {0})
names len line expected None = refused 2 line len 0
names len line expected (Some p) = cond (bytes_eq p.bytes expected) (fine tt) (refused 2 line p.offset 0)

-- a number and a time that the value line must have
abbrev pub number_at : ℕ → Part → Told ℕ
number_at low p = at 2 p.offset (number_field_of low p.bytes)

abbrev pub moment_at_of : Part → Told ℕ
moment_at_of p = at 2 p.offset (time_field_of p.bytes)

-- the four values, in their order
abbrev pub value_fields_of : Part → Part → Part → Part → Told Values
value_fields_of n a c d =
    then (number_at 1 n) (λ number.
    then (moment_at_of a) (λ available.
    then (number_at 0 c) (λ content.
    then (time_at_of 2 d) (λ dur.
    fine (record { number = number; available = available; content = content; dur = dur })))))

abbrev pub value_parts : ℕ → List Part → Told Values
value_parts offset ps = cond (length ps == 4) (value_fields_of (nth_part ps 0) (nth_part ps 1) (nth_part ps 2) (nth_part ps 3)) (refused 3 2 offset 0)

-- the value line: missing or with another number of fields it is 3
abbrev pub values : ℕ → Option Part → Told Values
values len None = refused 3 2 len 0
values len (Some p) = value_parts p.offset (parts 44 p.offset p.bytes)

-- an element of a depth under its parent: begin, end, then the computed times
abbrev pub element_times_of : ℕ → ℕ → Computed → Part → Part → Told Element
element_times_of line d parent b e =
    then (time_at_of line b) (λ wb.
    then (time_at_of line e) (λ we.
    then (computed_at_of line b.offset e.offset parent wb we) (λ c.
    fine (record { depth = d; begin = wb; end = we; computed = c }))))

abbrev pub element_fields : ℕ → ℕ → (ℕ → Computed) → Part → Part → Part → Told Element
element_fields line before nearest l b e = then (at line l.offset (level_field_of before l.bytes)) (λ d. element_times_of line d (nearest (d - 1)) b e)

abbrev pub element_parts : ℕ → ℕ → (ℕ → Computed) → ℕ → List Part → Told Element
element_parts line before nearest offset ps = cond (length ps == 3) (element_fields line before nearest (nth_part ps 0) (nth_part ps 1) (nth_part ps 2)) (refused 3 line offset 0)

-- an element line after an element of the depth `before`, where `nearest` has the computed times of the
-- nearest earlier element of each depth
abbrev pub element : ℕ → ℕ → (ℕ → Computed) → Part → Told Element
element line before nearest p = element_parts line before nearest p.offset (parts 44 p.offset p.bytes)

-- The elements so far are a list with the newest first.

-- the computed times of the nearest earlier element of a depth
abbrev pub nearest_in : List Element → ℕ → Computed
nearest_in [] d = root
nearest_in (e ∷ es) d = cond (e.depth == d) e.computed (nearest_in es d)

-- the depth of the element before, 0 before the first
abbrev pub depth_before : List Element → ℕ
depth_before [] = 0
depth_before (e ∷ es) = e.depth

-- the least computed begin among elements that write one
abbrev pub least_begin : List Element → Option ℕ
least_begin [] = None
least_begin (e ∷ es) = least_of (least_begin es) e.begin e.computed.begin

-- the greatest computed end among elements that write one
abbrev pub greatest_end : List Element → Option ℕ
greatest_end [] = None
greatest_end (e ∷ es) = most_of (greatest_end es) e.end e.computed.end

-- the elements of lines from a line on, after the elements `es`
abbrev pub elements_after : ℕ → List Element → List Part → Told (List Element)
elements_after line es [] = fine es
elements_after line es (p ∷ ps) = then (element line (depth_before es) (nearest_in es) p) (λ e. elements_after (line + 1) (e ∷ es) ps)

-- all elements, from line 4 on; none is 6
abbrev pub elements : ℕ → List Part → Told (List Element)
elements len [] = refused 6 4 len 0
elements len (p ∷ ps) = elements_after 4 [] (p ∷ ps)

-- the document of a value line and its elements
abbrev pub document_of : Values → List Element → Document
document_of v es = record { number = v.number; available = v.available; begin = least_begin es; end = greatest_end es; dur = v.dur; content = v.content }

-- a text of `len` bytes, by its lines
abbrev pub document_in : ℕ → List Part → Told Document
document_in len ps =
    then (names len 1 value_names (first ps)) (λ _.
    then (values len (first (rest ps))) (λ v.
    then (names len 3 element_names (first (rest (rest ps)))) (λ _.
    then (elements len (rest (rest (rest ps)))) (λ es.
    fine (document_of v es)))))

-- the lines of a text that ends in a line feed
abbrev pub lines_of : List ℕ → List Part
lines_of t = parts 10 0 (take (length t - 1) t)

-- reading a text: 1 where it is empty, too long or does not end in a line feed; else by its lines
abbrev pub read_document_of : List ℕ → Told Document
read_document_of t = cond (nat_le 1 (length t) && (nat_le (length t) text_limit && slice_index t (length t - 1) == 10)) (document_in (length t) (lines_of t)) (refused 1 0 0 0)
