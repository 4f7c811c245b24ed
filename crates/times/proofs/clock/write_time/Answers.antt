use Rattle.std.proofs.Common.{rules}
use Rattle.std.proofs.lemmas.Bool.{le-leb}
use Rattle.times.proofs.Round.{round_trip}
use Rattle.times.proofs.clock.write_time.Goals as goal

pub returns : goal.returns
returns c =
    let early = le-leb c.args.moment 359999999 c.if-moment-gt-LAST_MOMENT.false in
    record { writes = search (rules, early); trip = round_trip }

pub returns-then-moment-gt-LAST_MOMENT : goal.returns-then-moment-gt-LAST_MOMENT
returns-then-moment-gt-LAST_MOMENT c = record { writes = search rules; trip = round_trip }
