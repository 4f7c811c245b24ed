use Rattle.std.proofs.Common.{None, vec_items}
use Rattle.std.proofs.lemmas.Result.{on_ok_weaker}
use Rattle.replay.specs.Readings.{read_calls_of}
use Rattle.replay.specs.Walks.{waiting}
use Rattle.replay.proofs.Texts.{told}
use Rattle.replay.proofs.running.Run.run_stack.Goals as goal

pub returns : goal.returns
returns g c =
    let r = c.args.self.now.reading in
    let read = read_calls_of r.script.text.now c.args.takes None (waiting r) in
    let s = c.in_ok-stops.ensures in
    on_ok_weaker c.write_stop.result
    (told (vec_items c.args.self.now.out.bytes) (vec_items c.run_calls.new.self.out.bytes) (vec_items c.text.new.self.bytes) (vec_items c.write_stop.new.self.out.bytes) (g.D.Stream.parts c.args.beside.now.stack) (g.D.Stream.parts c.run_calls.new.beside.stack) read (vec_items c.in_ok-schedule.schedule) c.as_slice.result.now c.in_ok-stops.stops
    s.lines s.book c.in_ok-schedule.ensures c.as_slice.ensures.value c.in_ok-text.ensures s.stops)
    c.write_stop.ensures
