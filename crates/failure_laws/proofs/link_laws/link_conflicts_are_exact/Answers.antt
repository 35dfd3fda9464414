use Rattle.failure_laws.proofs.links.LinkExact.{links_exact}
use Rattle.failure_laws.proofs.link_laws.link_conflicts_are_exact.Goals as goal

pub returns : goal.returns
returns c = record { exact = links_exact }
