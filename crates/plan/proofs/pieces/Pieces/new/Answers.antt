use Rattle.plan.proofs.Laws.{parts}
use Rattle.plan.proofs.Cuts.{pieces_few}
use Rattle.plan.proofs.pieces.Pieces.new.Goals as goal

pub returns-clause-law : goal.returns-clause-law
returns-clause-law c = parts

pub returns-clause-few : goal.returns-clause-few
returns-clause-few c = pieces_few c.args.input.now
