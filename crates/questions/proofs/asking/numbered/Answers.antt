use Rattle.std.proofs.Common.{eqb, sym, ◌∙◌, rules, tests}
use Rattle.std.proofs.lemmas.Iterator.Adapters.{option_map_id}
use Rattle.std.proofs.lemmas.Iterator.Consumers.{YieldsList-from_rest}
use Rattle.std.proofs.lemmas.Iterator.Search.{find_from_yields_List}
use Rattle.questions.proofs.Scanning.{find_found}
use Rattle.questions.proofs.asking.numbered.Goals as goal

pub returns : goal.returns
returns g c =
    let shown = (g.S.Stream.parts c.args.stream.now).shown in
    sym (option_map_id _)
    ∙ find_from_yields_List (λ d. eqb d.number c.args.number) _ _ c.find.result c.find.ensures.ran (YieldsList-from_rest shown c.of.ensures.documents) (λ x b q k. search (rules, tests))
    ∙ find_found (λ d. eqb d.number c.args.number) shown
