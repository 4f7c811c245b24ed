use Rattle.std.proofs.Common.{rules}
use Rattle.plan.proofs.Notes.{field_then}
use Rattle.plan.proofs.planning.put_line.Goals as goal

pub returns : goal.returns
returns c =
    let all = field_then _ _ _ _ _ _ c.put_rejection.ensures.puts c.put_field.ensures.puts in
    let holds = all.holds in
    search (rules, holds)
