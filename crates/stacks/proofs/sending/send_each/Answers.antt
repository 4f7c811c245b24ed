use Rattle.std.proofs.Common.{◌<◌, length, sym, ◌∙◌, arith}
use Rattle.std.proofs.lemmas.List.{at_drop_all, drop-set-lt}
use Rattle.stacks.specs.Calls.{run}
use Rattle.stacks.proofs.Following.{run_more, answers_more, answers_all, prompt_more, prompt_all}
use Rattle.stacks.proofs.sending.send_each.Goals as goal

pub loop-i-preserved : goal.loop-i-preserved
loop-i-preserved g c =
    let b = g.D.Stream.parts c.loop-i.stack in
    let b' = g.D.Stream.parts c.serve.new.self in
    let u = g.D.Stream.bare c.loop-i.stack in
    let u' = g.D.Stream.bare c.serve.new.self in
    let cs = c.args.calls.now in
    let rs = c.loop-i.replies in
    let i = c.loop-i.i in
    let h : i < length rs = omega arith in
    let k = c.loop-i-test.true in (
      run_more b b' cs i _ k c.serve.ensures.after ∙ c.loop-i.invariant.0,
      answers_more b b' cs rs i _ c.serve.result k h c.serve.ensures.after c.serve.ensures.answer ∙ c.loop-i.invariant.1,
      drop-set-lt (length cs) rs i c.serve.result k ∙ c.loop-i.invariant.2,
      λ p. c.loop-i.invariant.3 (prompt_more b b' cs i _ k c.serve.ensures.after c.serve.ensures.prompt p),
      c.serve.ensures.nodes ∙ c.loop-i.invariant.4,
      run_more u u' cs i _ k c.serve.ensures.bare ∙ c.loop-i.invariant.5,
    )

pub returns : goal.returns
returns g c =
    let b = g.D.Stream.parts c.loop-i.stack in
    let u = g.D.Stream.bare c.loop-i.stack in
    let cs = c.args.calls.now in
    let i = c.loop-i.i in
    let k = c.loop-i-test.false in
    record {
      served = record {
        book = sym (at_drop_all (run b) cs i k) ∙ c.loop-i.invariant.0;
        answers = sym (answers_all b cs c.loop-i.replies i k (omega arith)) ∙ c.loop-i.invariant.1;
        rest = c.loop-i.invariant.2;
        nodes = c.loop-i.invariant.4;
        bare = sym (at_drop_all (run u) cs i k) ∙ c.loop-i.invariant.5;
      };
      prompt = c.loop-i.invariant.3 (prompt_all b cs i k);
    }
