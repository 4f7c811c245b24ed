use Rattle.std.proofs.Common.{ℕ, List, ap, ◌∙◌, arith}
use Rattle.times.specs.Refusals.{into}
use Rattle.questions.specs.declared.window.Window.{Window}
use Rattle.plan.specs.Plans.{plan_in}
use Rattle.plan.proofs.Whole.{plan_long, same_window}
use Rattle.plan.proofs.planning.plan.Goals as goal

pub returns-then-input-gt-INPUT_LIMIT : goal.returns-then-input-gt-INPUT_LIMIT
returns-then-input-gt-INPUT_LIMIT c =
    record {
      text = c.copy_front.ensures.text ∙ ap (λ (t : List ℕ). into t c.args.out.now) (plan_long c.args.input.now c.if-input-gt-INPUT_LIMIT.true);
      fits = λ h. c.copy_front.ensures.fits (omega (arith, h));
    }

pub returns : goal.returns
returns c =
    record {
      text = c.plan_within.ensures.text ∙ ap (λ (w : Window). into (plan_in w 256 c.args.input.now) c.args.out.now) (same_window c.in_ok-window.window c.in_ok-window.ensures);
      fits = c.plan_within.ensures.fits;
    }
