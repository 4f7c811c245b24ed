use Rattle.plan.proofs.Notes.{field_then}
use Rattle.scripts.proofs.Columns.{few_then}
use Rattle.scripts.proofs.printing.put_lasts.Goals as goal

pub returns : goal.returns
returns c =
    let a = c.put_mark.ensures in
    let b = c.put_field.ensures in
    let d = c.put_field-2.ensures in
    record { puts = field_then _ _ _ _ _ _ (field_then _ _ _ _ _ _ a.puts b.puts) d.puts; few = few_then _ _ 29 _ d.few (few_then _ _ 8 _ b.few a.few) }
