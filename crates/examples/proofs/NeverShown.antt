-- A document that ends by its begin is active at no moment.
use Rattle.std.proofs.Common.{◌≡◌, ℕ, ◌≤◌, Bool, true, false, cond, ◌&&◌, ltb, leb, Some, None, ap, arith}
use Rattle.std.proofs.lemmas.Bool.Decides.{nat_tests}
use Rattle.std.specs.Option.{option_map}
use Rattle.questions.specs.declared.window.Window.{Window}
use Rattle.questions.specs.Resolved.{resolved_begin_of, resolved_end_of}
use Rattle.questions.specs.Asking.{Answer, active, refused, is_active, naming, active_of}
use Rattle.examples.specs.Worked.{one, two, three, four, of_four}

between : (b e t : ℕ) → e ≤ b → (leb b t && ltb t e) ≡ false
between b e t h = grind (arith, nat_tests)

-- the answer of four documents, by the tests of each
abbrev answer : Bool → Bool → Bool → Bool → Bool → Bool → Answer
answer past a b c d s =
    cond past (refused 15) (active (option_map naming (cond a (Some one) (cond b (Some two) (cond c (Some three) (cond d (Some four) None))))) s)

first_two : (past a b c d s m : Bool) (n k : ℕ) → c ≡ false → d ≡ false → answer past a b c d s ≡ active (Some (n, k)) m → n ≤ 2
first_two true a b c d s m n k p q e = let z : ◌≡◌ {A = ℕ} 0 1 = cc in absurd (omega arith)
first_two false true b c d s m n k p q e = let z : ◌≡◌ {A = ℕ × ℕ} (n, k) (naming one) = cc in omega (arith, ap (λ (x : ℕ × ℕ). x.0) z)
first_two false false true c d s m n k p q e = let z : ◌≡◌ {A = ℕ × ℕ} (n, k) (naming two) = cc in omega (arith, ap (λ (x : ℕ × ℕ). x.0) z)
first_two false false false true d s m n k p q e = let z : ◌≡◌ {A = ℕ} 0 1 = cc in absurd (omega arith)
first_two false false false false true s m n k p q e = let z : ◌≡◌ {A = ℕ} 0 1 = cc in absurd (omega arith)
first_two false false false false false s m n k p q e = let z : ◌≡◌ {A = ℕ} 0 1 = cc in absurd (omega arith)

pub shows_first_two : (w : Window) (t n k : ℕ) (m : Bool) → active_of of_four w t ≡ active (Some (n, k)) m → n ≤ 2
shows_first_two w t n k m e =
    first_two (ltb 359999999 t)
    (is_active w of_four.shown t one) (is_active w of_four.shown t two)
    (is_active w of_four.shown t three) (is_active w of_four.shown t four)
    (ltb t of_four.settled) m n k
    (between (resolved_begin_of w three) (resolved_end_of w of_four.shown three) t (omega arith))
    (between (resolved_begin_of w four) (resolved_end_of w of_four.shown four) t (omega arith))
    e
