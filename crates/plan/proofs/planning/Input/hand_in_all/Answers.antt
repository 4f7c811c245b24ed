use Rattle.std.proofs.Common.{◌≡◌, ◌+◌, length, sym, ap, ◌∙◌, subst, arith}
use Rattle.plan.specs.Left.{left, piece_of}
use Rattle.plan.specs.Pieces.{pieces_of}
use Rattle.plan.specs.Plans.{handed_in_of, refusals_text}
use Rattle.plan.proofs.Notes.{Noting, run_more, text_more, noting_start, noting_more, noting_all}
use Rattle.plan.proofs.planning.Input.hand_in_all.Goals as goal

pub loop-before-init : goal.loop-before-init
loop-before-init g c =
    let p = g.T.Stream.parts c.args.stream.now in
    let input = c.args.self.bytes.now in
    let it = c.into_iter-before-iterator.result in
    let all : left it.iter ≡ pieces_of input = cc in
    let none : 0 ≡ it.count = cc in (
      ap (handed_in_of p) all,
      subst (λ k. Noting c.args.from c.args.from (k + 1) p (left it.iter) c.args.out.now (refusals_text 1 p (pieces_of input)) c.args.out.now) none (noting_start c.args.from p _ _ c.args.out.now all),
      omega (arith, ap length all, ap length c.new.ensures.all, c.new.ensures.few),
    )

pub loop-before-preserved : goal.loop-before-preserved
loop-before-preserved g c =
    let i = c.loop-before.invariant in
    let p = g.T.Stream.parts c.loop-before.stream in
    let p' = g.T.Stream.parts c.hand_in-answer.new.stream in
    let k = c.in-Some.before in
    let it = c.loop-before.before-iterator in
    let xs = left it.iter in
    let ys = left c.next.new.self.iter in
    let s = c.in-Some.ensures.steps in
    let whole = refusals_text 1 (g.T.Stream.parts c.args.stream.now) (pieces_of c.args.self.bytes.now) in
    let few : length xs ≡ length ys + 1 = omega (arith, ap length s.0) in
    let here = subst (λ n. Noting c.args.from c.loop-before.at (n + 1) p xs c.loop-before.out whole c.args.out.now) (sym s.1) i.1 in
    let a = c.hand_in-answer.ensures in
    let m = c.note-at.ensures in
    let next = noting_more c.args.from c.loop-before.at c.note-at.result (k + 1) p p' xs ys _ c.loop-before.out c.note-at.new.out _ c.args.out.now
    (text_more (k + 1) p p' (piece_of c.in-Some.piece) _ _ _ s.0 a.after a.answer) m.next (omega arith) m.front m.back here in (
      run_more p p' (piece_of c.in-Some.piece) _ _ s.0 a.after ∙ i.0,
      subst (λ n. Noting c.args.from c.note-at.result (n + 1) p' ys c.note-at.new.out whole c.args.out.now) (omega (arith, s.1, s.2)) next,
      omega (arith, m.bound),
    )

pub returns : goal.returns
returns g c =
    let i = c.loop-before.invariant in
    let none = c.in-None.ensures.steps.0.0 in
    let p = g.T.Stream.parts c.loop-before.stream in
    let it = c.loop-before.before-iterator in
    let whole = refusals_text 1 (g.T.Stream.parts c.args.stream.now) (pieces_of c.args.self.bytes.now) in
    let n = noting_all c.args.from c.loop-before.at (it.count + 1) p (left it.iter) c.loop-before.out whole c.args.out.now none i.1 in
    record { after = sym (ap (handed_in_of p) none) ∙ i.0; end = n.ends; bound = omega arith; written = n.holds }
