use Rattle.std.proofs.Common.{◌≡◌, ◌++◌, map, length, take, drop}
use Rattle.stacks.specs.Calls.{told_reply, run, replies, PromptRun}
use Rattle.stacks.proofs.sending.send_each.Given as goal

abbrev pub invariant-loop-i : goal.invariant-loop-i
invariant-loop-i g l =
    let b = g.D.Stream.parts l.stack in
    let b₀ = g.D.Stream.parts l.initial.stack in
    (run b (drop l.i l.calls) ≡ run b₀ l.calls)
    × (map told_reply (take l.i l.replies) ++ replies b (drop l.i l.calls) ≡ replies b₀ l.calls)
    × (drop (length l.calls) l.replies ≡ drop (length l.calls) l.initial.replies)
    × (PromptRun b (drop l.i l.calls) → PromptRun b₀ l.calls)
    × (g.D.Stream.nodes l.stack ≡ g.D.Stream.nodes l.initial.stack)
    × (run (g.D.Stream.bare l.stack) (drop l.i l.calls) ≡ run (g.D.Stream.bare l.initial.stack) l.calls)
