use Rattle.std.proofs.Common.{Err, ap, ◌∙◌}
use Rattle.std.proofs.lemmas.Result.{err_from_is_err_and}
use Rattle.questions.specs.Resolved.{Opening}
use Rattle.replay.specs.Readings.{active_in_of}
use Rattle.replay.specs.Walks.{told_ask}
use Rattle.replay.proofs.running.active_in.Goals as goal

pub returns-in_err-new : goal.returns-in_err-new
returns-in_err-new c =
    let p = err_from_is_err_and c.from_residual.result c.from_residual.ensures.1 in
    ap told_ask (p.1 ∙ ap Err p.2) ∙ ap (λ (o : Opening). active_in_of o c.args.moment) c.in_err-new.ensures

pub returns : goal.returns
returns c = ap (λ (o : Opening). active_in_of o c.args.moment) c.in_ok-new.ensures
