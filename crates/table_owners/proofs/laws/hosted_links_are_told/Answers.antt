use Rattle.table_owners.proofs.ownership.Hosting.{told_hosted}
use Rattle.table_owners.proofs.laws.hosted_links_are_told.Goals as goal

pub returns : goal.returns
returns c = record { ends = λ schema sound places tell a assoc here first_hosts. told_hosted schema sound places tell a assoc here first_hosts }
