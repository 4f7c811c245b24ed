use Rattle.std.proofs.Common.{◌+◌, ap, ◌∙◌, arith}
use Rattle.std.proofs.lemmas.List.{take_rest}
use Rattle.plan.specs.Cutting.{line_end_of}
use Rattle.plan.proofs.Cuts.{left_line, left_more, left_cut, left_blank, left_end, line_some}
use Rattle.plan.proofs.pieces.Pieces.piece_end.Goals as goal

pub loop-place-init : goal.loop-place-init
loop-place-init c =
    let here = c.args.self.now in
    let e = ap (λ n. here.place + n) (c.first_line.ensures.value ∙ ap line_end_of (take_rest here.input.now here.place)) in
    (omega (arith, e, line_some here.place here.input.now (omega arith)), omega arith, left_line here.place _ here.input.now c.requires.within c.requires.shown e)

pub loop-place-preserved : goal.loop-place-preserved
loop-place-preserved c =
    let i = c.loop-place.invariant in
    let here = c.args.self.now in
    let place = c.loop-place.place in
    let e = ap (λ n. place + n) (c.first_line-place.ensures.value ∙ ap line_end_of (take_rest here.input.now place)) in
    (omega arith, omega arith, left_more here.place place _ here.input.now (omega arith) c.loop-place-test.true c.if-input-place-ne10.true e i.2)

pub returns-else-input-place-ne10 : goal.returns-else-input-place-ne10
returns-else-input-place-ne10 c =
    let i = c.loop-place.invariant in
    let e = left_cut c.args.self.now.place c.loop-place.place c.args.self.now.input.now _ i.2 (left_blank c.loop-place.place c.args.self.now.input.now (omega arith) c.if-input-place-ne10.false) in
    record { bound = i.1; some = i.0; cut = e.0; stop = e.1 }

pub returns-after-loop-place : goal.returns-after-loop-place
returns-after-loop-place c =
    let i = c.loop-place.invariant in
    let e = left_cut c.args.self.now.place c.loop-place.place c.args.self.now.input.now _ i.2 (left_end c.loop-place.place c.args.self.now.input.now (omega arith)) in
    record { bound = i.1; some = i.0; cut = e.0; stop = e.1 }
