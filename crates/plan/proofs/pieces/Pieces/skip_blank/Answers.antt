use Rattle.std.proofs.Common.{ap, ◌∙◌}
use Rattle.std.proofs.lemmas.List.{take_rest}
use Rattle.plan.specs.Cutting.{feeds_of}
use Rattle.plan.proofs.Cuts.{skipped}
use Rattle.plan.proofs.pieces.Pieces.skip_blank.Goals as goal

pub returns-clause-value : goal.returns-clause-value
returns-clause-value c =
    let here = c.args.self.now in
    skipped here.place c.feeds.result here.input.now (c.feeds.ensures.value ∙ ap feeds_of (take_rest here.input.now here.place))
