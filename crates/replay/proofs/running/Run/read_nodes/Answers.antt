use Rattle.std.proofs.Common.{◌≡◌, ℕ, ◌+◌, List, ◌∷◌, ◌++◌, vec_items, Err, sym, refl, ap, ◌∙◌, arith}
use Rattle.streams.specs.Stacks.{Delay}
use Rattle.times.specs.Refusals.{refusal_number}
use Rattle.scripts.specs.Lines.{ScriptLine}
use Rattle.scripts.specs.Left.{line_of, lines_left}
use Rattle.scripts.specs.Printing.{node_text}
use Rattle.replay.specs.Readings.{NodeLines, answering, read_nodes_of, delays_of}
use Rattle.replay.specs.Walks.{waiting, with_put}
use Rattle.replay.specs.Replays.{node_lines}
use Rattle.replay.proofs.Waiting.{fewer}
use Rattle.replay.proofs.Standings.{next-node, nodes-next, stands, left_out, written_more}
use Rattle.replay.proofs.running.Run.read_nodes.Goals as goal
use Rattle.replay.proofs.running.Run.read_nodes.Goals.{in-Ok, in-Err-Refused}

pub loop-self-smaller : goal.loop-self-smaller
loop-self-smaller g c = fewer c.loop-self.self.reading c.advance.new.self c.in-Some.line (lines_left c.loop-self.self.reading.script) c.in-Some.is c.advance.ensures.lines (omega arith)

pub loop-self-preserved : goal.loop-self-preserved
loop-self-preserved g c =
    let bare = g.S.Stream.parts c.args.bare.now in
    let r = c.loop-self.self.reading in
    let ls : List ScriptLine = lines_left r.script in
    let i = c.loop-self.invariant in
    let s = c.loop-self.standing in
    let s' = c.match-put_on.standing in
    let o = c.match-put_on.refused in
    let count : ℕ = c.loop-self.self.out.count in
    let here = line_of c.in-Some.line ∷ ls in
    let more : List Delay → NodeLines = λ js. read_nodes_of bare js ls in
    let then' : NodeLines = read_nodes_of bare (delays_of s') (waiting c.advance.new.self) in
    let put : with_put c.put_on.result (delays_of s) here more ≡ answering (refusal_number o) (more (delays_of s')) = elim c.match-put_on.branch [
      | in-Ok w ↦ stands (delays_of s) here more c.put_on.result s' o _ w.in-Ok.is w.standing-is w.refused-is
      | in-Err-Refused w ↦ left_out (delays_of s) here more c.put_on.result s' o s w.in-Err-Refused.refusal (w.in-Err-Refused.is ∙ ap Err w.in-Err-Refused.field-0-is) w.standing-is w.refused-is refl
    ] in
    let e : read_nodes_of bare (delays_of s) (waiting r) ≡ answering (refusal_number o) then' =
    next-node bare r c.in-Some.line (delays_of s) c.put_on.result c.in-Some.is c.put_on.ensures ∙ put ∙ ap (answering (refusal_number o)) (nodes-next bare (delays_of s') ls (waiting c.advance.new.self) c.advance.ensures.lines) in (
      written_more (vec_items c.loop-self.self.out.bytes) (vec_items c.node.new.self.bytes) _ _ _ _ c.in_ok-node.ensures.text
          (ap (λ (v : NodeLines). node_lines (count + 1) v.replies) e ∙ ap (λ (k : ℕ). node_text (count + 1) (refusal_number o) ++ node_lines (k + 1) then'.replies) (sym c.in_ok-node.ensures.count)) i.0,
      sym (ap (λ (v : NodeLines). v.standing) e) ∙ i.1,
      sym (ap (λ (v : NodeLines). v.rest) e) ∙ i.2,
      c.advance.ensures.text ∙ i.3,
    )
