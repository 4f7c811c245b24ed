-- Which adjustments are approved against a stream.
use Rattle.std.specs.Prelude.{ℕ, ◌+◌, cond, Ok, Err, Result, nat_le}
use Rattle.times.specs.declared.refusal.Refusal.{Refusal}
use Rattle.times.specs.Refusals.{number_of}
use Rattle.streams.specs.Streams.{most_total}
use Rattle.nodes.specs.declared.delay.Adjustment.{Adjustment}

-- the most that one node may add
abbrev pub most_adjustment : ℕ
most_adjustment = 600000

-- what approval answers: the amount, or the number of the refusal
pub data Approval : Type 0 where
  approved : ℕ → Approval
  refused : ℕ → Approval

abbrev pub told_approval : Result Adjustment Refusal → Approval
told_approval (Ok a) = approved a.amount
told_approval (Err e) = refused (number_of e)

-- over 600,000 is 12, then a total that would pass 4,800,000 is 13
abbrev pub approval_of : ℕ → ℕ → Approval
approval_of total amount = cond (nat_le amount most_adjustment) (cond (nat_le (total + amount) most_total) (approved amount) (refused 13)) (refused 12)
