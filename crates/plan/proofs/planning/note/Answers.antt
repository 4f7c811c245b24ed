use Rattle.std.proofs.Common.{◌≡◌, ℕ, ◌+◌, List, ◌++◌, length, take, sym, ap, ◌∙◌, arith}
use Rattle.fields.specs.Faults.{told}
use Rattle.plan.specs.Plans.{refusal_text}
use Rattle.plan.specs.Lines.{rejection_text}
use Rattle.plan.proofs.Notes.{noted, length-rejection}
use Rattle.plan.proofs.planning.note.Goals as goal

pub returns-in-Err : goal.returns-in-Err
returns-in-Err c =
    let k = c.args.document in
    let why = c.in-Err.why in
    let text : rejection_text k why ≡ refusal_text k (told c.args.answer) = ap (λ a. refusal_text k (told a)) (sym c.in-Err.is) in
    let long : c.line_length.result ≡ length (rejection_text k why) = c.line_length.ensures.value ∙ sym (length-rejection k why) in
    let n = noted c.args.at (c.args.at + c.line_length.result) (rejection_text k why) c.args.out.now c.put_line.new.out (ap (λ j. c.args.at + j) long) c.put_line.ensures in
    record {
      next = ap (λ j. c.args.at + j) long ∙ ap (λ (t : List ℕ). c.args.at + length t) text;
      bound = omega (arith, c.line_length.ensures.bound);
      front = λ h. n.front h ∙ ap (λ (t : List ℕ). take c.args.at c.args.out.now ++ t) text;
      back = n.back;
    }
