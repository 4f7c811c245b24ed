use Rattle.std.proofs.Common.{◌≡◌, Some, Option, sym, ap, ◌∙◌}
use Rattle.scripts.specs.Left.{lines_left}
use Rattle.streams.specs.declared.prepared.Entry.{Entry}
use Rattle.replay.specs.Readings.{Entries, read_entries_of, with_entry}
use Rattle.replay.specs.Walks.{waiting}
use Rattle.replay.proofs.Skips.{entries_next, read_more}
use Rattle.replay.proofs.Waiting.{entries_step, fewer_entries}
use Rattle.replay.proofs.running.Run.read_entries.Goals as goal

pub loop-entry-smaller : goal.loop-entry-smaller
loop-entry-smaller c = fewer_entries c.loop-entry.self.reading c.advance.new.self c.and_then.result c.in-Some.entry c.and_then.ensures c.in-Some.is c.advance.ensures.lines

pub loop-entry-preserved : goal.loop-entry-preserved
loop-entry-preserved c =
    let r = c.loop-entry.self.reading in
    let i = c.loop-entry.invariant in
    let more = read_entries_of (waiting c.advance.new.self) in
    let e : read_entries_of (waiting r) ≡ with_entry (Some c.in-Some.entry) (waiting r) more =
    entries_step r c.and_then.result c.and_then.ensures
    ∙ ap (λ (o : Option Entry). with_entry o (waiting r) (read_entries_of (lines_left r.script))) c.in-Some.is
    ∙ ap (with_entry (Some c.in-Some.entry) (waiting r)) (entries_next (lines_left r.script) (waiting c.advance.new.self) c.advance.ensures.lines) in (
      read_more _ _ _ more.entries _ c.in-Some.entry c.in_ok-push.ensures.items (ap (λ (v : Entries). v.entries) e) i.0,
      sym (ap (λ (v : Entries). v.rest) e) ∙ i.1,
      c.advance.ensures.text ∙ i.2,
      i.3,
    )
