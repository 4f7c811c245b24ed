use Rattle.std.proofs.Common.{ℕ, ◌+◌, List, ◌++◌, vec_items, Option, sym, ap, ◌∙◌, ap₂}
use Rattle.std.proofs.lemmas.Result.{on_ok_weaker}
use Rattle.scripts.specs.declared.command.Start.{Start}
use Rattle.replay.specs.Replays.{start_text}
use Rattle.replay.specs.Walks.{waiting}
use Rattle.replay.proofs.Runs.{lines_in_hand}
use Rattle.replay.proofs.running.Run.run_script.Goals as goal

pub returns : goal.returns
returns c =
    let r = c.args.self.now.reading in
    let r' = c.advance.new.self in
    let line = c.in-Some.line in
    let w = vec_items c.args.self.now.out.bytes in
    on_ok_weaker c.run_start.result (λ h. h
    ∙ ap₂ (λ (t : List ℕ) (o : Option Start). w ++ start_text t line.number o (waiting r')) (ap (λ t. t.now) c.advance.ensures.text) c.in-Some-read_start.ensures
    ∙ ap (λ (t : List ℕ). w ++ t) (sym (lines_in_hand r r' line r.script.text.now (r.script.number + 1) c.in-Some.is c.advance.ensures.lines)))
    (c.run_start.ensures line.number)
