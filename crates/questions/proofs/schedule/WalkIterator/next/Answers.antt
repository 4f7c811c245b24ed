use Rattle.std.proofs.Common.{sym, ◌∙◌}
use Rattle.std.specs.Option.{option_to_list}
use Rattle.questions.proofs.Backward.{intervals_back}
use Rattle.questions.proofs.Ends.{taken_last, none_taken, last_progress}
use Rattle.questions.proofs.schedule.WalkIterator.next.Goals as goal

pub returns-then-is_some : goal.returns-then-is_some
returns-then-is_some g c =
    let a = c.loop-document.self-inside in
    let r = c.interval_before-interval.result in
    let back = intervals_back a.window a.least _ _ _ _ c.in-Some.document (option_to_list r) _ c.loop-document.invariant c.in-Some.ensures.steps c.resolved_begin.ensures c.min-self-inside.ensures c.interval_before-interval.ensures in
    let steps = taken_last _ _ r (sym c.is_some.ensures ∙ c.if-is_some.true) (sym c.self.view_is ∙ back) in
    record { steps = steps; goes = last_progress _ _ r steps }

pub loop-document-preserved : goal.loop-document-preserved
loop-document-preserved g c =
    let a = c.loop-document.self-inside in
    let r = c.interval_before-interval.result in
    let back = intervals_back a.window a.least _ _ _ _ c.in-Some.document (option_to_list r) _ c.loop-document.invariant c.in-Some.ensures.steps c.resolved_begin.ensures c.min-self-inside.ensures c.interval_before-interval.ensures in
    none_taken _ _ r (sym c.is_some.ensures ∙ c.if-is_some.false) back
