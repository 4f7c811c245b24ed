use Rattle.std.proofs.Common.{ap, ◌∙◌}
use Rattle.questions.specs.declared.window.Window.{Window}
use Rattle.questions.specs.Texts.{schedule_text_of}
use Rattle.replay.proofs.Schedules.{refilled, whole_window_is}
use Rattle.replay.proofs.running.schedule_of.Goals as goal

pub returns : goal.returns
returns g c =
    let shown = (g.D.Stream.parts c.args.stack.now).shown in
    refilled c.text_length-length.result c.in_ok-text.text.len c.in_ok-text.text.items c.as_mut_slice.result.now c.put_text.new.out (schedule_text_of c.in-Ok.window shown) _ c.put_text.ensures c.as_mut_slice.ensures.len c.in_ok-text.ensures.len c.text_length-length.ensures.value
    (ap (λ (w : Window). schedule_text_of w shown) (whole_window_is c.in-Ok.window c.in-Ok.ensures))
