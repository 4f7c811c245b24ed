use Rattle.std.proofs.Common.{arith}
use Rattle.questions.proofs.Ends.{place_first}
use Rattle.questions.proofs.shown.ShownIterator.next.Goals as goal

pub returns-clause-steps : goal.returns-clause-steps
returns-clause-steps g c =
    let a = c.self.inside in
    let b = c.next.new.self in
    let s = c.in_ok-next.ensures.steps in
    rw (← c.self.view_is) (place_first (g.S.Stream.parts a.stream.now).shown a.places.start a.places.end b.start b.end c.in_ok-next.field-0 c.document_at.result (omega (arith, s.1.0)) (omega arith) s.1.1 s.1.2 s.0 c.document_at.ensures)
