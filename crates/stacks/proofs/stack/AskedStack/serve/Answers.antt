use Rattle.std.proofs.Common.{◌≡◌, false, refl, arith}
use Rattle.stacks.specs.Calls.{asks}
use Rattle.stacks.proofs.Quiet.{quiet}
use Rattle.stacks.proofs.stack.AskedStack.serve.Goals as goal

pub returns-in-HandIn : goal.returns-in-HandIn
returns-in-HandIn g c =
    let s = c.args.self.now.stack in
    let h : asks c.args.call.now ≡ false = grind (arith, c.in-HandIn.is) in
    let q = quiet (g.S.Stream.parts s) c.args.call.now h in
    let b = quiet (g.S.Stream.bare s) c.args.call.now h in
    record { answer = q.answer; after = q.after; prompt = q.prompt; nodes = refl; bare = b.after }
