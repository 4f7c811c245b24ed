-- A reader's parts are written into a slice one by one.
use Rattle.std.proofs.Common.{◌≡◌, ℕ, ◌+◌, ◌<◌, ◌≤◌, Bool, true, false, not, List, [], ◌∷◌, ◌++◌, length, map, take, set, is_some, Some, None, Option, ap, ◌∙◌, sym, arith}
use Rattle.std.specs.Prelude.{MatchOption, ◌≢◌}
use Rattle.std.specs.Bool.{then_some}
use Rattle.std.proofs.lemmas.List.{append_assoc, append-nil, length-append, length-map, length-take-le, length-set, map-append, take_all, take_more_set}
use Rattle.std.proofs.lemmas.Bool.{false≢true}
use Rattle.fields.specs.Parts.{Part}
use Rattle.fields.specs.Left.{part_of}
use Rattle.fields.specs.declared.reader.Field.{Field}

-- the first i parts of `all` are written, and `left` is to come
pub record Filled (all : List Part) (fields : List Field) (i : ℕ) (left : List Part) : Type 0 where
  pub room : i ≤ length fields
  pub parts : all ≡ map part_of (take i fields) ++ left

pub filled_more : {all : List Part} {fields : List Field} {i : ℕ} {left later : List Part} (f : Field) → Filled all fields i left → left ≡ part_of f ∷ later → i < length fields → Filled all (set fields i f) (i + 1) later
filled_more {fields = fields} {i = i} {later = later} f h e l =
    let t : map part_of (take (i + 1) (set fields i f)) ≡ map part_of (take i fields) ++ part_of f ∷ [] = ap (map part_of) (take_more_set fields i f l) ∙ map-append part_of (take i fields) (f ∷ []) in
    record {
      room = rw length-set (omega arith);
      parts = h.parts ∙ ap (λ (ps : List Part). map part_of (take i fields) ++ ps) e ∙ sym (ap (λ (ps : List Part). ps ++ later) t ∙ append_assoc (map part_of (take i fields)) (part_of f ∷ []) later);
    }

-- how many parts there are
pub filled_length : {all : List Part} {fields : List Field} {i : ℕ} {left : List Part} → Filled all fields i left → length all ≡ i + length left
filled_length {fields = fields} {i = i} {left = left} h =
    let n = length-take-le i fields h.room in
    ap length h.parts ∙ length-append (map part_of (take i fields)) left ∙ ap (λ n. n + length left) (length-map (take i fields) part_of ∙ n)

-- at the end of `fields`, one call more tells whether there are as many
pub filled_end : {all : List Part} {fields : List Field} {i : ℕ} {left : List Part} (n : ℕ) (later : List Part) (r : Option Field) (b : Bool) (o : Option (Unit {0})) → Filled all fields i left → length fields ≡ n → n ≤ i → MatchOption r (left ≡ []) (λ f. left ≡ part_of f ∷ later) → is_some r ≡ not b → o ≡ then_some b tt → MatchOption o (length all ≢ n) (λ _. all ≡ map part_of fields)
filled_end {fields = fields} {i = i} n later None true o h l m e is say =
    simp say (h.parts ∙ ap (λ (ps : List Part). map part_of (take i fields) ++ ps) e ∙ append-nil _ ∙ ap (map part_of) (take_all i fields (omega arith)))
filled_end n later None false o h l m e is say = absurd (false≢true is)
filled_end n later (Some f) true o h l m e is say = absurd (false≢true (sym is))
filled_end n later (Some f) false o h l m e is say = simp say (λ same. absurd (omega (arith, same, l, m, h.room, filled_length h, ap length e)))
