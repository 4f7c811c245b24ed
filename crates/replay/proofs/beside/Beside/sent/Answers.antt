use Rattle.replay.proofs.Sent.{first_said}
use Rattle.replay.proofs.beside.Beside.sent.Goals as goal

pub returns : goal.returns
returns g c = record { reply = first_said _ c.send.new.replies _ c.send.ensures.stack.answers; book = c.send.ensures.stack.book }
