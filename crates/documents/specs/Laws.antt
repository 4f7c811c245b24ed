-- Laws of reading, in the subject's words: which texts are accepted, with which values.
use Rattle.std.specs.Prelude.{◌≡◌, ℕ, ◌-◌, ◌<◌, ◌≤◌, true, ◌⊎◌, List, [], ◌∷◌, ◌++◌, length, is_some, Some, None, Option, ◌≢◌}
use Rattle.std.specs.List.{flat_map}
use Rattle.fields.specs.Faults.{good, fine, time_field_of, optional_time_of}
use Rattle.fields.specs.Parts.{join_by, Lacks, Clear}
use Rattle.fields.specs.Numbers.{number_field_of}
use Rattle.fields.specs.Levels.{level_field_of}
use Rattle.documents.specs.Elements.{begin_of, end_of}
use Rattle.documents.specs.Reading.{text_limit, value_names, element_names, nearest_in, depth_before, least_begin, greatest_end, read_document_of}
use Rattle.documents.specs.declared.document.Document.{Document}
use Rattle.documents.specs.declared.element.Element.{Element}

-- a line's fields, with commas between them
abbrev pub line_of : List (List ℕ) → List ℕ
line_of fields = join_by 44 fields

-- no field holds a comma, and their line holds no line feed
abbrev pub IsLine : List (List ℕ) → Type 0
IsLine fields = Clear 44 fields × Lacks 10 (line_of fields)

-- the text of lines: each ends in a line feed
abbrev pub text_of : List (List ℕ) → List ℕ
text_of lines = flat_map (λ l. l ++ (10 ∷ [])) lines

-- an element as it is written
pub record Row : Type 0 where
  pub level : List ℕ
  pub begin : List ℕ
  pub end : List ℕ

abbrev pub fields_in : Row → List (List ℕ)
fields_in r = r.level ∷ r.begin ∷ r.end ∷ []

abbrev pub row_lines : List Row → List (List ℕ)
row_lines [] = []
row_lines (r ∷ rs) = line_of (fields_in r) ∷ row_lines rs

-- what a row says after the elements `es`, the newest first: its level fits, its times are times, and its
-- computed times are those under its parent, the nearest earlier element one less deep
pub record Reads (es : List Element) (r : Row) (e : Element) : Type 0 where
  pub level : level_field_of (depth_before es) r.level ≡ good e.depth
  pub begin : optional_time_of r.begin ≡ good e.begin
  pub end : optional_time_of r.end ≡ good e.end
  pub computed_begin : begin_of (nearest_in es (e.depth - 1)) e.begin ≡ good e.computed.begin
  pub computed_end : end_of (nearest_in es (e.depth - 1)) e.end ≡ good e.computed.end

-- rows after the elements `es` say all the elements `all`
abbrev pub AllRead : List Element → List Row → List Element → Type 0
AllRead es [] all = es ≡ all
AllRead es (r ∷ rs) all = (e : Element) × IsLine (fields_in r) × Reads es r e × AllRead (e ∷ es) rs all

-- a text carries a document: it is the two names lines, a value line and at least one element line, short
-- enough, and what these lines say is the document
pub record Carries (t : List ℕ) (d : Document) : Type 0 where
  pub number : List ℕ
  pub available : List ℕ
  pub content : List ℕ
  pub dur : List ℕ
  pub rows : List Row
  pub elements : List Element
  pub text : t ≡ text_of (value_names ∷ line_of (number ∷ available ∷ content ∷ dur ∷ []) ∷ element_names ∷ row_lines rows)
  pub short : length t ≤ text_limit
  pub some : 0 < length rows
  pub value_line : IsLine (number ∷ available ∷ content ∷ dur ∷ [])
  pub number_is : number_field_of 1 number ≡ good d.number
  pub available_is : time_field_of available ≡ good d.available
  pub content_is : number_field_of 0 content ≡ good d.content
  pub dur_is : optional_time_of dur ≡ good d.dur
  pub read : AllRead [] rows elements
  pub begin_is : d.begin ≡ least_begin elements
  pub end_is : d.end ≡ greatest_end elements

-- a text is accepted as a document exactly where it carries it
abbrev pub Accepting : Type 0
Accepting = (t : List ℕ) (d : Document) → (read_document_of t ≡ fine d → Carries t d) × (Carries t d → read_document_of t ≡ fine d)

infix 40 ◌∈◌
-- an element stands in a list
abbrev pub ◌∈◌ : Element → List Element → Type 0
e ∈ [] = ⊥
e ∈ (f ∷ fs) = (e ≡ f) ⊎ (e ∈ fs)

-- a begin is a lower bound of the computed begins of elements that write one, and one of them has it;
-- an absent one means that none writes a begin
abbrev pub IsLeast : List Element → Option ℕ → Type 0
IsLeast es None = (e : Element) → e ∈ es → is_some e.begin ≢ true
IsLeast es (Some b) = ((e : Element) → e ∈ es → is_some e.begin ≡ true → b ≤ e.computed.begin) × ((e : Element) × (e ∈ es) × (is_some e.begin ≡ true) × (e.computed.begin ≡ b))

-- a computed end is there, and at most b
abbrev pub EndsBy : ℕ → Option ℕ → Type 0
EndsBy b None = ⊥
EndsBy b (Some x) = x ≤ b

-- an end is an upper bound of the computed ends of elements that write one, and one of them has it; an
-- absent one means that none writes an end
abbrev pub IsGreatest : List Element → Option ℕ → Type 0
IsGreatest es None = (e : Element) → e ∈ es → is_some e.end ≢ true
IsGreatest es (Some b) = ((e : Element) → e ∈ es → is_some e.end ≡ true → EndsBy b e.computed.end) × ((e : Element) × (e ∈ es) × (is_some e.end ≡ true) × (e.computed.end ≡ Some b))

-- the begin and the end of an accepted document are bounds that are attained
abbrev pub Bounding : Type 0
Bounding = (t : List ℕ) (d : Document) (c : Carries t d) → IsLeast c.elements d.begin × IsGreatest c.elements d.end
