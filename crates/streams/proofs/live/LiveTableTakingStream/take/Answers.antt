use Rattle.std.proofs.Common.{take, sym, ap, ◌∙◌, arith}
use Rattle.std.proofs.lemmas.Bool.{leb-true, and_parts}
use Rattle.std.proofs.lemmas.Grind.{common_steps}
use Rattle.std.proofs.lemmas.List.{take_more_set}
use Rattle.streams.specs.Streams.{orderly}
use Rattle.streams.specs.Fronts.{last_available, orderly_push, available_push}
use Rattle.streams.proofs.live.LiveTableTakingStream.take.Goals as goal

pub invariant_of-self : goal.invariant_of-self
invariant_of-self c =
    let t = c.args.self.now in
    let x = c.args.document in
    let shown = take t.used t.records.now in
    let more = take_more_set t.records.now t.used x c.if-self.false in
    let times = sym c.is_timely.ensures ∙ c.if-not-is_timely.false in
    record {
      within = grind (arith, common_steps);
      ordered = ap (orderly 355199999 0 0) more ∙ orderly_push 355199999 0 0 shown x t.ordered (omega (arith, c.last_number.ensures, c.if-document-last_number.false)) (omega (arith, t.reached, c.if-document-self.false)) times;
      reached = omega (arith, ap (last_available 0) more, available_push 0 shown x);
      entering = leb-true x.available 355199999 (and_parts _ _ times).0;
    }
