use Rattle.std.proofs.Common.{◌≡◌, ℕ, ◌+◌, List, ◌++◌, None, vec_items, sym, ap, ◌∙◌, subst}
use Rattle.streams.specs.Streams.{Parts}
use Rattle.scripts.specs.Left.{lines_left}
use Rattle.replay.specs.declared.output.Output.{Output}
use Rattle.replay.specs.Readings.{Calls, calling, read_calls_of}
use Rattle.replay.specs.Replays.{call_lines, run_to}
use Rattle.replay.specs.Walks.{waiting, told_ask}
use Rattle.replay.proofs.Waiting.{fewer}
use Rattle.replay.proofs.Standings.{written_more}
use Rattle.replay.proofs.Texts.{next-call, call_more}
use Rattle.replay.proofs.running.Run.run_calls.Goals as goal

pub loop-self-smaller : goal.loop-self-smaller
loop-self-smaller g c = fewer c.loop-self.self.reading c.advance.new.self c.in-Some.line (lines_left c.call_of.new.self.reading.script) c.in-Some.is c.advance.ensures.lines c.call_of.ensures.fewer

pub loop-self-preserved : goal.loop-self-preserved
loop-self-preserved g c =
    let input : List ℕ = c.args.self.now.reading.script.text.now in
    let takes = c.args.takes in
    let r = c.loop-self.self.reading in
    let r' = c.advance.new.self in
    let i = c.loop-self.invariant in
    let asked = c.in-Some-call_of.asked in
    let here = g.D.Stream.parts c.loop-self.beside.stack in
    let then' = g.D.Stream.parts c.answer-reply.new.self.stack in
    let a = c.answer-reply.ensures in
    let out = c.call_of.new.self.out in
    let all : Calls = read_calls_of input takes None (waiting r) in
    let more : Calls = read_calls_of input takes None (waiting r') in
    let read = next-call r.script.text.now takes r r' c.in-Some.line (lines_left c.call_of.new.self.reading.script) asked c.in-Some.is c.in-Some-call_of.ensures.call c.advance.ensures.lines in
    let e : all ≡ calling (told_ask asked) more =
    subst (λ (t : List ℕ). read_calls_of t takes None (waiting r) ≡ calling (told_ask asked) (read_calls_of t takes None (waiting r'))) (ap (λ t. t.now) i.3) read in (
      written_more (vec_items out.bytes) (vec_items c.reply.new.self.bytes) _ _ _ _ c.in_ok-reply.ensures.text
          (ap (λ (v : Calls). call_lines (out.count + 1) here v.calls) e ∙ call_more (out.count + 1) c.reply.new.self.count here then' (told_ask asked) more.calls _ _ c.hands_in.ensures a.reply a.book c.in_ok-reply.ensures.count)
          (ap (λ (o : Output). vec_items o.bytes ++ call_lines (o.count + 1) here all.calls) c.call_of.ensures.out ∙ i.0),
      ap (λ (p : Parts). run_to p more.calls) a.book ∙ sym (ap (λ (v : Calls). run_to here v.calls) e) ∙ i.1,
      sym (ap (λ (v : Calls). v.stops) e) ∙ i.2,
      c.advance.ensures.text ∙ c.call_of.ensures.text ∙ i.3,
    )
