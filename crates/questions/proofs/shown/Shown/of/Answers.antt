use Rattle.questions.proofs.Ends.{gives_in_order}
use Rattle.questions.proofs.shown.Shown.of.Goals as goal

pub returns-clause-runs : goal.returns-clause-runs
returns-clause-runs g c = gives_in_order
