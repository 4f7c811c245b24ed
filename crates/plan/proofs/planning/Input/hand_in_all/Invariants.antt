use Rattle.std.proofs.Common.{◌≡◌, ◌+◌, ◌*◌, ◌≤◌, length}
use Rattle.plan.specs.Left.{left}
use Rattle.plan.specs.Pieces.{pieces_of}
use Rattle.plan.specs.Plans.{handed_in_of, refusals_text}
use Rattle.plan.proofs.Notes.{Noting}
use Rattle.plan.proofs.planning.Input.hand_in_all.Given as goal

abbrev pub invariant-loop-before : goal.invariant-loop-before
invariant-loop-before g l =
    let p = g.T.Stream.parts l.stream in
    let p₀ = g.T.Stream.parts l.initial.stream in
    let ahead = left l.before-iterator.iter in
    (handed_in_of p ahead ≡ handed_in_of p₀ (pieces_of l.fn.self.bytes.now))
    × Noting l.from l.at (l.before-iterator.count + 1) p ahead l.out (refusals_text 1 p₀ (pieces_of l.fn.self.bytes.now)) l.initial.out
    × (l.at + 105 * length ahead ≤ l.from + 6881280)
