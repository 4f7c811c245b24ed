use Rattle.std.proofs.Common.{not, eqb, rules, tests, arith}
use Rattle.std.proofs.lemmas.Grind.{common_steps}
use Rattle.std.proofs.lemmas.Iterator.{YieldsList-from_slice}
use Rattle.std.proofs.lemmas.Iterator.Search.{position_from_yields_List}
use Rattle.fields.proofs.Skipped.{leading_le, leading_is}
use Rattle.fields.proofs.reader.reading.leading.Goals as goal

pub returns-clause-value : goal.returns-clause-value
returns-clause-value c =
    let found = position_from_yields_List (λ b. not (eqb b c.args.separator)) _ _ c.position.result c.position.ensures.ran (YieldsList-from_slice c.args.text.now cc) (λ x b q k. search (rules, tests)) in
    grind (arith, common_steps, found, leading_is c.args.separator c.args.text.now, leading_le c.args.separator c.args.text.now)
