use Rattle.std.proofs.Common.{leb, None, ap, ◌∙◌, rules, tests}
use Rattle.std.specs.List.{last_or}
use Rattle.std.proofs.lemmas.Iterator.Consumers.{YieldsList-from_rest, YieldsList-from_filter}
use Rattle.questions.specs.Resolved.{resolved_begin_of}
use Rattle.questions.proofs.Ends.{drained}
use Rattle.questions.proofs.Scanning.{last_filter}
use Rattle.questions.proofs.asking.last_begun.Goals as goal

pub returns : goal.returns
returns g c =
    let shown = (g.S.Stream.parts c.args.stream.now).shown in
    let w = c.args.window in
    let ran = c.last.ensures.ran in
    let begun = YieldsList-from_filter _ (λ d. leb (resolved_begin_of w d) c.args.moment) (YieldsList-from_rest shown cc) c.filter.ensures.closure (λ x b q k. search (rules, tests)) in
    ran.2 ∙ ap (last_or None) (drained ran.0 ran.1 begun) ∙ last_filter w c.args.moment None shown
