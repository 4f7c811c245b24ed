-- Where the lines of a script end.
use Rattle.std.proofs.Common.{◌≡◌, ℕ, ◌+◌, ◌<◌, ◌≤◌, Bool, true, false, ◌&&◌, ◌||◌, eqb, ltb, leb, List, [], ◌∷◌, length, sym, refl, ap, ◌∙◌, arith}
use Rattle.std.proofs.lemmas.Bool.{and_parts, and_from, cond_both, cond-false, lt-ltb, le-ltb, eqb-true, leb-true}
use Rattle.fields.specs.Parts.{Part, longer, parts}
use Rattle.scripts.specs.Lines.{last_only, lines_in, readable_of}

before_last : (size : ℕ) (p : Part) (ps : List Part) → p.offset < size → last_only size ps ≡ true → last_only size (p ∷ ps) ≡ true
before_last size p ps h r = and_from _ _ (ap (λ (b : Bool). b || eqb (length ps) 0) (lt-ltb p.offset size h)) r

longer_last : (size k b : ℕ) (ps : List Part) → k < size → last_only size ps ≡ true → last_only size (longer k b ps) ≡ true
longer_last size k b [] h r = refl
longer_last size k b (p ∷ ps) h r = before_last size (record { offset = k; bytes = b ∷ p.bytes }) ps h (and_parts _ (last_only size ps) r).1

-- only the last part of a text begins at its end
pub parts_last : (sep k size : ℕ) (bs : List ℕ) → k + length bs ≡ size → last_only size (parts sep k bs) ≡ true
parts_last sep k size [] e = elim (ltb k size) as (λ v. (v || true) && true ≡ true) [ true ↦ refl | false ↦ refl ]
parts_last sep k size (b ∷ bs) e =
    let ih : last_only size (parts sep (k + 1) bs) ≡ true = parts_last sep (k + 1) size bs (omega arith) in
    cond_both (eqb b sep) _ _ (λ (ps : List Part). last_only size ps ≡ true) (λ _. before_last size (record { offset = k; bytes = [] }) (parts sep (k + 1) bs) (omega arith) ih) (λ _. longer_last size k b (parts sep (k + 1) bs) (omega arith) ih)

none_left : (ps : List Part) → eqb (length ps) 0 ≡ true → ps ≡ []
none_left [] h = refl
none_left (p ∷ ps) h = absurd (omega (arith, eqb-true (length (p ∷ ps)) 0 h))

-- after the part that begins at the script's end there is none
pub past_last : (size : ℕ) (p : Part) (ps : List Part) → last_only size (p ∷ ps) ≡ true → size ≤ p.offset → ps ≡ []
past_last size p ps l h =
    none_left ps (sym (ap (λ (b : Bool). b || eqb (length ps) 0) (le-ltb p.offset size h)) ∙ (and_parts (ltb p.offset size || eqb (length ps) 0) (last_only size ps) l).0)

pub rest_last : (size : ℕ) (p : Part) (ps : List Part) → last_only size (p ∷ ps) ≡ true → last_only size ps ≡ true
rest_last size p ps l = (and_parts (ltb p.offset size || eqb (length ps) 0) (last_only size ps) l).1

pub no_line : (size n : ℕ) (p : Part) (ps : List Part) → size ≤ p.offset → lines_in size n (p ∷ ps) ≡ []
no_line size n p ps h = cond-false (ltb p.offset size) _ _ (le-ltb p.offset size h)

pub readable_few : (input : List ℕ) → length (readable_of input) ≤ 1048576
readable_few input = cond_both (leb (length input) 1048576) input [] (λ (t : List ℕ). length t ≤ 1048576) (λ h. leb-true (length input) 1048576 h) (λ _. omega arith)
