use Rattle.population.proofs.supporting.Support.{support_fits, support_least}
use Rattle.population.proofs.the_support_is_the_least.Goals as goal

pub returns-clause-least : goal.returns-clause-least
returns-clause-least c = support_least

pub returns-clause-fits : goal.returns-clause-fits
returns-clause-fits c = support_fits
