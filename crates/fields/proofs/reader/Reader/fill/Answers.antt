use Rattle.std.proofs.Common.{length, ap, rules, refl, arith}
use Rattle.fields.proofs.Filled.{filled_more, filled_length, filled_end}
use Rattle.fields.proofs.reader.Reader.fill.Goals as goal

pub loop-field-init : goal.loop-field-init
loop-field-init c = record { len = refl; filled = record { room = omega arith; parts = refl } }

pub loop-field-preserved : goal.loop-field-preserved
loop-field-preserved c = record { len = search rules; filled = filled_more _ c.loop-field.invariant.filled c.in_ok-field.ensures.cases (search rules) }

pub returns-in_err-field-clause-parts : goal.returns-in_err-field-clause-parts
returns-in_err-field-clause-parts c =
    let v = c.loop-field.invariant in
    simp c.from_residual.ensures (λ same. absurd (omega (arith, same, filled_length v.filled, ap length c.in_err-field.ensures.cases, v.len, c.loop-field-test.true)))

pub returns-clause-parts : goal.returns-clause-parts
returns-clause-parts c =
    let v = c.loop-field.invariant in
    filled_end _ _ c.next-2.result c.is_none.result c.then_some.result v.filled v.len (omega arith) c.next-2.ensures.cases c.is_none.ensures c.then_some.ensures
