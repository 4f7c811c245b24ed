use Rattle.std.proofs.Common.{min, ltb, ◌∙◌, rules, tests}
use Rattle.std.proofs.lemmas.Iterator.{YieldsList-from_map}
use Rattle.std.proofs.lemmas.Iterator.Consumers.{YieldsList-at, YieldsList-from_rest, YieldsList-from_filter, fold_from_yields_List}
use Rattle.questions.specs.Resolved.{resolved_begin_of}
use Rattle.questions.proofs.Scanning.{fold_end}
use Rattle.questions.proofs.asking.resolved_end.Goals as goal

pub returns : goal.returns
returns g c =
    let shown = (g.S.Stream.parts c.args.stream.now).shown in
    let w = c.args.window in
    let d = c.args.document.now in
    let later = YieldsList-from_filter _ (λ e. ltb d.number e.number) (YieldsList-from_rest shown cc) c.filter.ensures.closure (λ x b q k. search (rules, tests)) in
    let begins = YieldsList-from_map _ (resolved_begin_of w) (YieldsList-at c.map.ensures.source later) c.map.ensures.closure (λ x r q k. search rules) in
    fold_from_yields_List _ (λ end begin. min begin end) _ _ c.fold.ensures.ran begins (λ a x b q k. search rules)
    ∙ fold_end w d _ shown c.own_end.ensures
