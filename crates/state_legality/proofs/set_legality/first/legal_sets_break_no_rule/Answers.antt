use Rattle.state_legality.proofs.set_legality.Kept.{kept}
use Rattle.state_legality.proofs.set_legality.Unbroken.{legal_set}
use Rattle.state_legality.proofs.set_legality.first.legal_sets_break_no_rule.Goals as goal

pub returns : goal.returns
returns c = λ model state sound. (
  λ legal. kept model state legal,
  λ none s set here. legal_set model sound state none s set here,
)
