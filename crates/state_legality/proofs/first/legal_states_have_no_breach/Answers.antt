use Rattle.state_legality.proofs.Joined.{no_first_breach}
use Rattle.state_legality.proofs.first.legal_states_have_no_breach.Goals as goal

pub returns : goal.returns
returns c = λ model state breach legal. no_first_breach model state breach legal
