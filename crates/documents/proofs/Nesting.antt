-- What the code keeps of the elements agrees with the list of elements.
use Rattle.std.proofs.Common.{◌≡◌, ℕ, zero, suc, ◌+◌, ◌-◌, ◌≤◌, Bool, true, false, cond, eqb, List, [], ◌∷◌, length, get_or, set, replicate, Some, None, Option, sym, refl, ap, ◌∙◌, subst, ⊎_elim, arith}
use Rattle.std.proofs.lemmas.List.{get_or-set_same, get_or-set_other, length-set}
use Rattle.std.proofs.lemmas.Bool.{eq-eqb, ne_eqb, cases_eq}
use Rattle.fields.specs.Faults.{good, bad, Told, fine, refused, at, then}
use Rattle.fields.specs.Parts.{Part, parts, nth_part}
use Rattle.fields.specs.Levels.{level_of, depth_of, level_fits_of, level_in, level_field_of}
use Rattle.documents.specs.Elements.{root, least_of, most_of, time_at_of, computed_at_of}
use Rattle.documents.specs.Reading.{element_times_of, element, nearest_in, depth_before, least_begin, greatest_end, elements_after, elements, document_of, document_in}
use Rattle.documents.specs.Outlines as outlines
use Rattle.documents.specs.Outlines.{start, grown, element_after, outlined, outline_of, read_lines_of}
use Rattle.documents.specs.declared.document.Document.{Document}
use Rattle.documents.specs.declared.element.Computed.{Computed}
use Rattle.documents.specs.declared.element.Element.{Element}
use Rattle.documents.specs.declared.element.Outline.{Outline}
use Rattle.fields.specs.declared.level.Level.{Level}
use Rattle.fields.specs.declared.level.Level.TheVariants.{Body, Div, P, Span}
use Rattle.documents.specs.declared.text.Values.{Values}

then_assoc : {A B C : Type 0} (t : Told A) (f : A → Told B) (g : B → Told C) → then (then t f) g ≡ then t (λ x. then (f x) g)
then_assoc (fine x) f g = refl
then_assoc (refused n l o c) f g = refl

-- what holds of the value, if there is one
data Holds {A : Type 0} (P : A → Type 0) : Told A → Type 0 where
  held : {x : A} → P x → Holds P (fine x)
  none : {n l o c : ℕ} → Holds P (refused n l o c)

holds_then : {A B : Type 0} {P : A → Type 0} {Q : B → Type 0} (t : Told A) (f : A → Told B) → Holds P t → ((x : A) → P x → Holds Q (f x)) → Holds Q (then t f)
holds_then (fine x) f (held p) h = h x p
holds_then (refused n l o c) f none h = none

holds_any : {A : Type 0} (t : Told A) → Holds (λ _. Unit {0}) t
holds_any (fine x) = held tt
holds_any (refused n l o c) = none

holds_cond : {A : Type 0} {P : A → Type 0} (b : Bool) (x y : Told A) → Holds P x → Holds P y → Holds P (cond b x y)
holds_cond true x y h k = h
holds_cond false x y h k = k

depth-most : (l : Level) → depth_of l ≤ 4
depth-most Body = omega arith
depth-most Div = omega arith
depth-most P = omega arith
depth-most Span = omega arith

level_deep : (line offset before : ℕ) (l : Option Level) → Holds (λ d. d ≤ 4) (at line offset (level_in before l))
level_deep line offset before None = none
level_deep line offset before (Some l) =
    elim (level_fits_of before (depth_of l)) as (λ v. Holds (λ d. d ≤ 4) (at line offset (cond v (good (depth_of l)) (bad 6 0)))) [ true ↦ held (depth-most l) | false ↦ none ]

-- an element is at most 4 deep
times_deep : (line d : ℕ) (parent : Computed) (b e : Part) → d ≤ 4 → Holds (λ x. x.depth ≤ 4) (element_times_of line d parent b e)
times_deep line d parent b e h =
    holds_then (time_at_of line b) _ (holds_any _) (λ wb _. holds_then (time_at_of line e) _ (holds_any _) (λ we _. holds_then (computed_at_of line b.offset e.offset parent wb we) _ (holds_any _) (λ c _. held h)))

element_deep : (line before : ℕ) (nearest : ℕ → Computed) (p : Part) → Holds (λ e. e.depth ≤ 4) (element line before nearest p)
element_deep line before nearest p =
    let ps : List Part = parts 44 p.offset p.bytes in
    let l : Part = nth_part ps 0 in
    holds_cond (eqb (length ps) 3) _ _
    (holds_then (at line l.offset (level_field_of before l.bytes)) _ (level_deep line l.offset before (level_of l.bytes)) (λ d h. times_deep line d (nearest (d - 1)) (nth_part ps 1) (nth_part ps 2) h))
    none

-- an outline stands for the elements so far
record Models (o : Outline) (es : List Element) : Type 0 where
  depth : o.depth ≡ depth_before es
  levels : (d : ℕ) → get_or o.levels d root ≡ nearest_in es d
  room : length o.levels ≡ 5
  begin : o.begin ≡ least_begin es
  end : o.end ≡ greatest_end es

grow : (o : Outline) (es : List Element) (e : Element) → Models o es → e.depth ≤ 4 → Models (grown o e) (e ∷ es)
grow o es e h d =
    record {
      depth = refl;
      levels = λ k. ⊎_elim
          (λ (same : e.depth ≡ k). let t = eq-eqb e.depth k same in simp t (subst (λ j. get_or (set o.levels e.depth e.computed) j root ≡ e.computed) same (get_or-set_same o.levels e.depth e.computed root (omega (arith, h.room)))))
          (λ (other : e.depth ≡ k → ⊥). let t = ne_eqb e.depth k other in simp t (get_or-set_other o.levels e.depth k e.computed root (λ q. other (sym q)) ∙ h.levels k))
          (cases_eq e.depth k);
      room = length-set o.levels e.depth e.computed ∙ h.room;
      begin = ap (λ b. least_of b e.begin e.computed.begin) h.begin;
      end = ap (λ b. most_of b e.end e.computed.end) h.end;
    }

abbrev of_outline : Outline → Told (Option ℕ × Option ℕ)
of_outline o = fine (o.begin, o.end)

abbrev of_elements : List Element → Told (Option ℕ × Option ℕ)
of_elements es = fine (least_begin es, greatest_end es)

step : (ps : List Part) (line : ℕ) (o : Outline) (es : List Element) → ((e : Element) → e.depth ≤ 4 → then (outlined (line + 1) (grown o e) ps) of_outline ≡ then (elements_after (line + 1) (e ∷ es) ps) of_elements) → (t : Told Element) → Holds (λ e. e.depth ≤ 4) t → then (then t (λ e. outlined (line + 1) (grown o e) ps)) of_outline ≡ then (then t (λ e. elements_after (line + 1) (e ∷ es) ps)) of_elements
step ps line o es ih (fine e) (held d) = ih e d
step ps line o es ih (refused k l b c) none = refl

agree : (ps : List Part) (line : ℕ) (o : Outline) (es : List Element) → Models o es → then (outlined line o ps) of_outline ≡ then (elements_after line es ps) of_elements
agree [] line o es h = let b = h.begin in let e = h.end in simp (b, e)
agree (p ∷ ps) line o es h =
    let same : element_after line o p ≡ element line (depth_before es) (nearest_in es) p = λ i. element line (h.depth i) (λ d. h.levels d i) p in
    step ps line o es (λ e d. agree ps (line + 1) (grown o e) (e ∷ es) (grow o es e h d)) _ (element_deep line o.depth (λ d. get_or o.levels d root) p)
    ∙ ap (λ t. then (then t (λ e. elements_after (line + 1) (e ∷ es) ps)) of_elements) same

get_or_replicated : (n d : ℕ) (x : Computed) → get_or (replicate n x) d x ≡ x
get_or_replicated zero d x = refl
get_or_replicated (suc n) zero x = refl
get_or_replicated (suc n) (suc d) x = get_or_replicated n d x

computed : (line : ℕ) (ps : List Part) → then (outlined line start ps) of_outline ≡ then (elements_after line [] ps) of_elements
computed line ps = agree ps line start [] (record { depth = refl; levels = λ d. get_or_replicated 5 d root; room = refl; begin = refl; end = refl })

abbrev of_times : Values → Option ℕ × Option ℕ → Told Document
of_times v q = fine (record { number = v.number; available = v.available; begin = q.0; end = q.1; dur = v.dur; content = v.content })

same_elements : (len : ℕ) (v : Values) (ps : List Part) → then (outline_of len ps) (λ o. fine (outlines.document_of v o)) ≡ then (elements len ps) (λ es. fine (document_of v es))
same_elements len v [] = refl
same_elements len v (p ∷ ps) =
    sym (then_assoc (outlined 4 start (p ∷ ps)) of_outline (of_times v)) ∙ ap (λ t. then t (of_times v)) (computed 4 (p ∷ ps)) ∙ then_assoc (elements_after 4 [] (p ∷ ps)) of_elements (of_times v)

pub same_lines : (len : ℕ) (ps : List Part) → read_lines_of len ps ≡ document_in len ps
same_lines len ps = simp same_elements
