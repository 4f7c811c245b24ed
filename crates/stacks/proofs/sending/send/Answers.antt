use Rattle.std.proofs.Common.{◌≡◌, true, false, [], length, sym, inl, inr, ⊎_elim, arith}
use Rattle.std.proofs.lemmas.Bool.{cond-true, cond-false}
use Rattle.stacks.specs.Sendings.{room, answered, unsent}
use Rattle.stacks.proofs.Sent.{some_room, no_room, deliver, nothing}
use Rattle.stacks.proofs.sending.send.Goals as goal

pub returns-then-replies-calls : goal.returns-then-replies-calls
returns-then-replies-calls g c =
    let s = c.args.stack.now in
    let t = c.args.second.now in
    let cs = c.args.calls.now in
    let rs = c.args.replies.now in
    let os = c.args.others.now in
    let full : room cs rs os ≡ false = no_room cs rs os (⊎_elim inl (λ k. inr k.1) c.then-replies-calls.either) in
    let d = deliver g.D.Stream g.B.Stream [] _ s s rs rs t t os os (cond-false _ cs [] full) tt (nothing g.D.Stream s rs) (nothing g.B.Stream t os) in
    record { result = sym (cond-false _ (answered (length cs)) (unsent 17) full); stack = d.first; second = d.other; promise = d.promised }

pub returns : goal.returns
returns g c =
    let cs = c.args.calls.now in
    let rs = c.args.replies.now in
    let os = c.args.others.now in
    let full : room cs rs os ≡ true = some_room cs rs os (omega arith) (omega arith) in
    let d = deliver g.D.Stream g.B.Stream cs _ c.args.stack.now c.send_each.new.stack rs c.send_each.new.replies c.args.second.now c.send_each-2.new.stack os c.send_each-2.new.replies (cond-true _ cs [] full) c.send_each.ensures.prompt c.send_each.ensures.served c.send_each-2.ensures.served in
    record { result = sym (cond-true _ (answered (length cs)) (unsent 17) full); stack = d.first; second = d.other; promise = d.promised }
