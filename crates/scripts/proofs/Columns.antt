-- Columns of a printed line.
use Rattle.std.proofs.Common.{ℕ, ◌+◌, ◌≤◌, List, [], ◌∷◌, ◌++◌, length, decimal, arith}
use Rattle.std.proofs.lemmas.List.{length-append}

-- how long a text is with a number and a byte in front
pub few_then : (n b k : ℕ) (text : List ℕ) → length (decimal n ++ (b ∷ [])) ≤ 21 → length text ≤ k → length (decimal n ++ (b ∷ text)) ≤ 21 + k
few_then n b k text h l = simp length-append (omega (arith, simp length-append at h))

-- with any text in front
pub few_front : (a b : List ℕ) (j k : ℕ) → length a ≤ j → length b ≤ k → length (a ++ b) ≤ j + k
few_front a b j k h l = omega (arith, length-append a b)
