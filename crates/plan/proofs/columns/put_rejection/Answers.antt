use Rattle.std.proofs.Common.{◌≡◌, ℕ, length, decimal, ap, arith}
use Rattle.std.proofs.lemmas.List.{length-append}
use Rattle.fields.specs.Faults.{cause_number_of}
use Rattle.times.specs.Refusals.{number_of}
use Rattle.plan.proofs.Notes.{four_puts}
use Rattle.plan.proofs.columns.put_rejection.Goals as goal

pub returns : goal.returns
returns c =
    let a = c.put_field.ensures in
    let b = c.put_field-2.ensures in
    let d = c.put_field-3.ensures in
    let e = c.put_field-4.ensures in
    let why = c.args.why in
    let cause : length (decimal c.cause_number.result) ≡ length (decimal (cause_number_of why.cause)) = ap (λ (n : ℕ). length (decimal n)) c.cause_number.ensures in
    let number : length (decimal c.number.result) ≡ length (decimal (number_of why.refusal)) = ap (λ (n : ℕ). length (decimal n)) c.number.ensures in
    record {
      puts = four_puts why _ _ _ _ _ _ _ c.number.ensures c.cause_number.ensures a.puts b.puts d.puts e.puts;
      few = simp length-append (omega (arith, cause, number, simp length-append at a.few, simp length-append at b.few, simp length-append at d.few, simp length-append at e.few));
    }
