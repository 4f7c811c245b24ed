-- The line of a refused piece, from the record that hand-in answered.
use Rattle.std.specs.Prelude.{ℕ, ◌+◌, List, [], ◌∷◌, ◌++◌, length, decimal}
use Rattle.times.specs.Refusals.{number_of}
use Rattle.fields.specs.Faults.{refused, cause_number_of}
use Rattle.fields.specs.declared.fault.Rejection.{Rejection}
use Rattle.plan.specs.Plans.{refusal_text}

-- the four numbers of a refused text: refusal, line, byte, cause
abbrev pub rejection_fields : Rejection → List ℕ
rejection_fields r = decimal (number_of r.refusal) ++ (44 ∷ (decimal r.line ++ (44 ∷ (decimal r.byte ++ (44 ∷ (decimal (cause_number_of r.cause) ++ (10 ∷ [])))))))

-- its line, with the piece's count in front
abbrev pub rejection_text : ℕ → Rejection → List ℕ
rejection_text k r = refusal_text k (refused (number_of r.refusal) r.line r.byte (cause_number_of r.cause))

abbrev pub rejection_length : ℕ → Rejection → ℕ
rejection_length k r = length (decimal k) + length (decimal (number_of r.refusal)) + length (decimal r.line) + length (decimal r.byte) + length (decimal (cause_number_of r.cause)) + 5
