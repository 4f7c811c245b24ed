-- Empty parts are blank lines: what is left past them has the same lines from the first that is not blank on.
use Rattle.std.proofs.Common.{◌≡◌, ℕ, suc, ◌+◌, ◌-◌, ◌≤◌, Bool, true, false, ◌&&◌, ◌||◌, eqb, ltb, List, [], ◌∷◌, length, sym, refl, ap, ◌∙◌, ap₂, arith}
use Rattle.std.proofs.lemmas.Bool.Decides.{nat_tests}
use Rattle.std.proofs.lemmas.Bool.{and_parts, cond_both, cond-true, cond-false}
use Rattle.fields.specs.Parts.{Part, past_empty}
use Rattle.scripts.specs.Lines.{is_blank, line_at, lines_in, skip_blank_of, last_only}
use Rattle.scripts.proofs.Ends.{rest_last}

pub past_empty_last : (size : ℕ) (ps : List Part) → last_only size ps ≡ true → last_only size (past_empty ps) ≡ true
past_empty_last size [] h = h
past_empty_last size (p ∷ ps) h = cond_both (eqb (length p.bytes) 0 && ltb 0 (length ps)) _ _ (λ (qs : List Part). last_only size qs ≡ true) (λ _. past_empty_last size ps (rest_last size p ps h)) (λ _. h)

past_empty_few : (ps : List Part) → length (past_empty ps) ≤ length ps
past_empty_few [] = omega arith
past_empty_few (p ∷ ps) = cond_both (eqb (length p.bytes) 0 && ltb 0 (length ps)) _ _ (λ (qs : List Part). length qs ≤ suc (length ps)) (λ _. omega (arith, past_empty_few ps)) (λ _. omega arith)

-- a part that is not the last begins before the script's end
begins_inside : (size : ℕ) (p : Part) (ps : List Part) → last_only size (p ∷ ps) ≡ true → ltb 0 (length ps) ≡ true → ltb p.offset size ≡ true
begins_inside size p ps l h =
    let first : (ltb p.offset size || eqb (length ps) 0) ≡ true = (and_parts (ltb p.offset size || eqb (length ps) 0) (last_only size ps) l).0 in
    grind (arith, nat_tests, first, h)

-- m empty parts are m blank lines
pub past_empty_lines : (size n m : ℕ) (ps : List Part) → last_only size ps ≡ true → m + length (past_empty ps) ≡ length ps
    → (skip_blank_of (lines_in size (n + m) (past_empty ps)) ≡ skip_blank_of (lines_in size n ps)) × (m + length (lines_in size (n + m) (past_empty ps)) ≡ length (lines_in size n ps))
past_empty_lines size n m [] h e = let z : m ≡ 0 = omega (arith, e) in (refl, omega (arith, z))
past_empty_lines size n m (p ∷ ps) h e = step (eqb (length p.bytes) 0 && ltb 0 (length ps)) refl (λ c. past_empty_lines size (n + 1) (m - 1) ps (rest_last size p ps h) c)
  where
    step : (v : Bool) → (eqb (length p.bytes) 0 && ltb 0 (length ps)) ≡ v
        → (m - 1 + length (past_empty ps) ≡ length ps → (skip_blank_of (lines_in size (n + 1 + (m - 1)) (past_empty ps)) ≡ skip_blank_of (lines_in size (n + 1) ps)) × (m - 1 + length (lines_in size (n + 1 + (m - 1)) (past_empty ps)) ≡ length (lines_in size (n + 1) ps)))
        → (skip_blank_of (lines_in size (n + m) (past_empty (p ∷ ps))) ≡ skip_blank_of (lines_in size n (p ∷ ps))) × (m + length (lines_in size (n + m) (past_empty (p ∷ ps))) ≡ length (lines_in size n (p ∷ ps)))
    step true k later =
        let both = and_parts (eqb (length p.bytes) 0) (ltb 0 (length ps)) k in
        let f : past_empty (p ∷ ps) ≡ past_empty ps = cond-true (eqb (length p.bytes) 0 && ltb 0 (length ps)) _ _ k in
        let some : 1 ≤ m = omega (arith, e, ap length f, past_empty_few ps) in
        let past = later (omega (arith, e, ap length f, some)) in
        let on : n + m ≡ n + 1 + (m - 1) = omega (arith, some) in
        let left : lines_in size (n + m) (past_empty (p ∷ ps)) ≡ lines_in size (n + 1 + (m - 1)) (past_empty ps) = ap₂ (lines_in size) on f in
        let here : lines_in size n (p ∷ ps) ≡ line_at size n p ∷ lines_in size (n + 1) ps = cond-true (ltb p.offset size) _ _ (begins_inside size p ps h both.1) in
        let blank : skip_blank_of (line_at size n p ∷ lines_in size (n + 1) ps) ≡ skip_blank_of (lines_in size (n + 1) ps) = cond-true (is_blank (line_at size n p)) _ _ both.0 in
        (ap skip_blank_of left ∙ past.0 ∙ sym (ap skip_blank_of here ∙ blank), omega (arith, some, ap length left, past.1, ap length here))
    step false k later =
        let f : past_empty (p ∷ ps) ≡ p ∷ ps = cond-false (eqb (length p.bytes) 0 && ltb 0 (length ps)) _ _ k in
        let none : m ≡ 0 = omega (arith, e, ap length f) in
        let left : lines_in size (n + m) (past_empty (p ∷ ps)) ≡ lines_in size n (p ∷ ps) = ap₂ (lines_in size) (omega (arith, none)) f in
        (ap skip_blank_of left, omega (arith, none, ap length left))

-- the same as a script goes on, of which `number` lines were handed out
pub blanks_past : (size number m : ℕ) (ps qs : List Part) → last_only size ps ≡ true → qs ≡ past_empty ps → m + length qs ≡ length ps
    → (skip_blank_of (lines_in size (number + m + 1) qs) ≡ skip_blank_of (lines_in size (number + 1) ps)) × (m + length (lines_in size (number + m + 1) qs) ≡ length (lines_in size (number + 1) ps))
blanks_past size number m ps qs h f e =
    let past = past_empty_lines size (number + 1) m ps h (ap (λ (rs : List Part). m + length rs) (sym f) ∙ e) in
    let left : lines_in size (number + m + 1) qs ≡ lines_in size (number + 1 + m) (past_empty ps) = ap₂ (lines_in size) (omega arith) f in
    (ap skip_blank_of left ∙ past.0, omega (arith, ap length left, past.1))
