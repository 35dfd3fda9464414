use Rattle.state_legality.proofs.link_legality.Kept.{no_breach}
use Rattle.state_legality.proofs.link_legality.Unbroken.{keeps_rules}
use Rattle.state_legality.proofs.link_legality.first.legal_links_have_no_breach.Goals as goal

pub returns : goal.returns
returns c = record { kept = no_breach; clean = keeps_rules }
