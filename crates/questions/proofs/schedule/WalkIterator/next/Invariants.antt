use Rattle.std.proofs.Common.{◌≡◌, length}
use Rattle.questions.specs.Walks.{intervals_before}
use Rattle.questions.proofs.schedule.WalkIterator.next.Given as goal

abbrev pub invariant-loop-document : goal.invariant-loop-document
invariant-loop-document g l =
    let a = l.self-inside in
    let b = l.initial.self-inside in
    intervals_before a.window a.least a.documents ≡ intervals_before b.window b.least b.documents

abbrev pub decreases-loop-document : goal.decreases-loop-document
decreases-loop-document g l = length l.self-inside.documents
