-- The begin and the end of an accepted document are bounds that are attained.
use Rattle.std.proofs.Common.{◌≡◌, ℕ, ◌+◌, ◌-◌, ◌<◌, ◌≤◌, max, true, List, [], ◌∷◌, is_some, Some, None, Option, sym, refl, ap, ◌∙◌, subst, inl, inr, ⊎_elim, arith}
use Rattle.std.proofs.lemmas.Bool.{false≢true, cases_lt}
use Rattle.fields.specs.Faults.{Judged, good, bad}
use Rattle.documents.specs.Elements.{up_to_limit, cut_to, cut_in, end_of, least_of, most_of}
use Rattle.documents.specs.Reading.{nearest_in, least_begin, greatest_end}
use Rattle.documents.specs.Laws.{Row, AllRead, ◌∈◌, IsLeast, EndsBy, IsGreatest, Bounding}
use Rattle.documents.specs.declared.element.Computed.{Computed}
use Rattle.documents.specs.declared.element.Element.{Element}

-- one element more, in front of those whose least begin is known
least_more : (e : Element) (es : List Element) (b w : Option ℕ) → e.begin ≡ w → IsLeast es b → IsLeast (e ∷ es) (least_of b w e.computed.begin)
least_more e es None None f h = λ x m s. ⊎_elim (λ (q : x ≡ e). false≢true (sym (ap (λ (y : Element). is_some y.begin) q ∙ ap is_some f) ∙ s)) (λ (later : x ∈ es). h x later s) m
least_more e es (Some b) None f h = (
  (λ x m s. ⊎_elim (λ (q : x ≡ e). absurd (false≢true (sym (ap (λ (y : Element). is_some y.begin) q ∙ ap is_some f) ∙ s))) (λ (later : x ∈ es). h.0 x later s) m),
  (h.1.0, inr h.1.1, h.1.2, h.1.3),
)
least_more e es None (Some w) f h = (
  (λ x m s. ⊎_elim (λ (q : x ≡ e). let n = ap (λ (y : Element). y.computed.begin) q in omega (arith, n)) (λ (later : x ∈ es). absurd (h x later s)) m),
  (e, inl refl, ap is_some f, refl),
)
least_more e es (Some b) (Some w) f h = (
  (λ x m s. ⊎_elim (λ (q : x ≡ e). let n = ap (λ (y : Element). y.computed.begin) q in omega (arith, n)) (λ (later : x ∈ es). omega (arith, h.0 x later s)) m),
  ⊎_elim
      (λ (k : b < e.computed.begin). (h.1.0, inr h.1.1, h.1.2, h.1.3 ∙ omega arith))
      (λ (k : e.computed.begin ≤ b). (e, inl refl, ap is_some f, omega arith))
      (cases_lt b e.computed.begin),
)

least : (es : List Element) → IsLeast es (least_begin es)
least [] = λ x m s. m
least (e ∷ es) = least_more e es (least_begin es) e.begin refl (least es)

-- an element that writes an end has a computed one
abbrev Ended : List Element → Type 0
Ended [] = Unit {0}
Ended (e ∷ es) = (is_some e.end ≡ true → is_some e.computed.end ≡ true) × Ended es

cut_some : (o : Option ℕ) (j : Judged ℕ) (c : Option ℕ) → cut_in o j ≡ good c → is_some c ≡ true
cut_some o (good t) c h = let e : Some (cut_to o t) ≡ c = cc in sym (ap is_some e)
cut_some o (bad n k) c h = let z : ◌≡◌ {A = ℕ} 0 1 = cc in absurd (omega arith)

end_some : (parent : Computed) (w c : Option ℕ) → end_of parent w ≡ good c → is_some w ≡ true → is_some c ≡ true
end_some parent None c h s = absurd (false≢true s)
end_some parent (Some w) c h s = cut_some parent.end (up_to_limit (parent.begin + w)) c h

ended : (es all : List Element) (rows : List Row) → Ended es → AllRead es rows all → Ended all
ended es all [] k h = subst Ended h k
ended es all (r ∷ rows) k h = ended (h.0 ∷ es) all rows ((λ s. end_some (nearest_in es (h.0.depth - 1)) h.0.end h.0.computed.end h.2.computed_end s), k) h.3

-- one element more, in front of those whose greatest end is known
most_more : (e : Element) (es : List Element) (b w c : Option ℕ) → e.end ≡ w → e.computed.end ≡ c → (is_some w ≡ true → is_some c ≡ true) → IsGreatest es b → IsGreatest (e ∷ es) (most_of b w c)
most_more e es None None c f g k h = λ x m s. ⊎_elim (λ (q : x ≡ e). false≢true (sym (ap (λ (y : Element). is_some y.end) q ∙ ap is_some f) ∙ s)) (λ (later : x ∈ es). h x later s) m
most_more e es (Some b) None c f g k h = (
  (λ x m s. ⊎_elim (λ (q : x ≡ e). absurd (false≢true (sym (ap (λ (y : Element). is_some y.end) q ∙ ap is_some f) ∙ s))) (λ (later : x ∈ es). h.0 x later s) m),
  (h.1.0, inr h.1.1, h.1.2, h.1.3),
)
most_more e es b (Some w) None f g k h = absurd (false≢true (k refl))
most_more e es None (Some w) (Some c) f g k h = (
  (λ x m s. ⊎_elim (λ (q : x ≡ e). subst (EndsBy c) (sym (ap (λ (y : Element). y.computed.end) q ∙ g)) (omega arith)) (λ (later : x ∈ es). absurd (h x later s)) m),
  (e, inl refl, ap is_some f, g),
)
most_more e es (Some b) (Some w) (Some c) f g k h = (
  (λ x m s. ⊎_elim
      (λ (q : x ≡ e). subst (EndsBy (max b c)) (sym (ap (λ (y : Element). y.computed.end) q ∙ g)) (omega arith))
      (λ (later : x ∈ es). ends-later b (max b c) x.computed.end (omega arith) (h.0 x later s)) m),
  ⊎_elim
      (λ (q : b < c). (e, inl refl, ap is_some f, g ∙ ap Some (omega arith)))
      (λ (q : c ≤ b). (h.1.0, inr h.1.1, h.1.2, h.1.3 ∙ ap Some (omega arith)))
      (cases_lt b c),
)
  where
    ends-later : (a b : ℕ) (o : Option ℕ) → a ≤ b → EndsBy a o → EndsBy b o
    ends-later a b None h e = e
    ends-later a b (Some x) h e = omega arith

greatest : (es : List Element) → Ended es → IsGreatest es (greatest_end es)
greatest [] k = λ x m s. m
greatest (e ∷ es) k = most_more e es (greatest_end es) e.end e.computed.end refl refl k.0 (greatest es k.1)

pub bounding : Bounding
bounding t d c = (
  subst (IsLeast c.elements) (sym c.begin_is) (least c.elements),
  subst (IsGreatest c.elements) (sym c.end_is) (greatest c.elements (ended [] c.elements c.rows tt c.read)),
)
