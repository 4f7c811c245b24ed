use Rattle.questions.proofs.Timetables.{timetable}
use Rattle.questions.proofs.schedule.schedule.Goals as goal

pub returns-then-out-n-clause-laws : goal.returns-then-out-n-clause-laws
returns-then-out-n-clause-laws g c = timetable c.args.window _ _ (g.S.Stream.lawful c.args.stream.now).ordered

pub returns-clause-laws : goal.returns-clause-laws
returns-clause-laws g c = timetable c.args.window _ _ (g.S.Stream.lawful c.args.stream.now).ordered
