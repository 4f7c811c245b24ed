use Rattle.std.proofs.Common.{◌≡◌, length, Some, refl, ap, arith}
use Rattle.scripts.specs.declared.command.Command.TheVariants as says
use Rattle.scripts.specs.Commands.{command_of}
use Rattle.scripts.specs.Left.{line_of, lines_left}
use Rattle.replay.proofs.Skips.{few_after}
use Rattle.replay.proofs.Texts.{text-call}
use Rattle.replay.proofs.running.Run.call_of.Goals as goal

pub returns-in-Some-Text : goal.returns-in-Some-Text
returns-in-Some-Text c =
    let s = c.args.self.now.reading.script in
    let t = c.text_from.ensures in
    let e : Some says.Text ≡ command_of (line_of c.args.line) = cc c.in-Some-Text.ensures in
    record {
      call = text-call s.text.now c.args.takes (line_of c.args.line) (lines_left s) _ _ e c.if-takes-3.true t.value t.lines;
      fewer = omega (arith, few_after (lines_left s), ap length t.lines);
      text = t.text;
      out = refl;
    }
