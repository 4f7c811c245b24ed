use Rattle.std.proofs.Common.{Some, sym, refl, ap, ◌∙◌}
use Rattle.std.proofs.lemmas.Result.{err_from_is_err_and}
use Rattle.streams.specs.Stacks.{holding, retiming}
use Rattle.scripts.specs.declared.command.Command.{Command}
use Rattle.replay.specs.Readings.{node_in}
use Rattle.replay.proofs.Standings.{node_refused, node_stands}
use Rattle.replay.proofs.running.node_over.Goals as goal

pub returns-in_err-approve-in-Some-Holder : goal.returns-in_err-approve-in-Some-Holder
returns-in_err-approve-in-Some-Holder g c =
    let p = err_from_is_err_and c.from_residual.result c.from_residual.ensures.1 in
    node_refused _ _ (holding c.in-Some-Holder.amount) c.from_residual.result _ _ (sym (ap node_in c.in-Some-Holder.ensures) ∙ ap (λ (x : Command). node_in (Some x)) c.in-Some-Holder.field-0-is) c.in_err-approve-in-Some-Holder.ensures p.1 p.2

pub returns-in_ok-approve-in-Some-Holder : goal.returns-in_ok-approve-in-Some-Holder
returns-in_ok-approve-in-Some-Holder g c = node_stands _ _ holding c.in-Some-Holder.amount _ (sym (ap node_in c.in-Some-Holder.ensures) ∙ ap (λ (x : Command). node_in (Some x)) c.in-Some-Holder.field-0-is) refl c.in_ok-approve-in-Some-Holder.ensures

pub returns-in_err-approve-in-Some-Retimer : goal.returns-in_err-approve-in-Some-Retimer
returns-in_err-approve-in-Some-Retimer g c =
    let p = err_from_is_err_and c.from_residual-in_err-approve-in-Some-Retimer.result c.from_residual-in_err-approve-in-Some-Retimer.ensures.1 in
    node_refused _ _ (retiming c.in-Some-Retimer.amount) c.from_residual-in_err-approve-in-Some-Retimer.result _ _ (sym (ap node_in c.in-Some-Retimer.ensures) ∙ ap (λ (x : Command). node_in (Some x)) c.in-Some-Retimer.field-0-is) c.in_err-approve-in-Some-Retimer.ensures p.1 p.2

pub returns-in_ok-approve-in-Some-Retimer : goal.returns-in_ok-approve-in-Some-Retimer
returns-in_ok-approve-in-Some-Retimer g c = node_stands _ _ retiming c.in-Some-Retimer.amount _ (sym (ap node_in c.in-Some-Retimer.ensures) ∙ ap (λ (x : Command). node_in (Some x)) c.in-Some-Retimer.field-0-is) refl c.in_ok-approve-in-Some-Retimer.ensures
