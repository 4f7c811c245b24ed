-- A list of one call was sent as it is.
use Rattle.std.proofs.Common.{◌≡◌, ℕ, List, [], ◌∷◌, map, get_or, take, arith}
use Rattle.questions.specs.Asking.{Answer}
use Rattle.stacks.specs.declared.calls.Reply.{Reply}
use Rattle.stacks.specs.Calls.{told_reply}

-- the reply to it is the first one
pub first_said : (a : Answer) (kept : List Reply) (d : Reply) → map told_reply (take 1 kept) ≡ a ∷ [] → told_reply (get_or kept 0 d) ≡ a
first_said a [] d e = let z : ◌≡◌ {A = ℕ} 0 1 = cc in absurd (omega arith)
first_said a (x ∷ xs) d e = cc
