use Rattle.fields.proofs.Law.{cut_law}
use Rattle.fields.proofs.reader.Reader.new.Goals as goal

pub returns-then-saturating_add-gt-MOST_OFFSET-clause-law : goal.returns-then-saturating_add-gt-MOST_OFFSET-clause-law
returns-then-saturating_add-gt-MOST_OFFSET-clause-law c = cut_law

pub returns-clause-law : goal.returns-clause-law
returns-clause-law c = cut_law
