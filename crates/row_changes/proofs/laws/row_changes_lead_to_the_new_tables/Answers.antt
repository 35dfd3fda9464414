use Rattle.row_changes.proofs.leading.Leads.{finds, leads}
use Rattle.row_changes.proofs.laws.row_changes_lead_to_the_new_tables.Goals as goal

pub returns-clause-finds : goal.returns-clause-finds
returns-clause-finds c = finds

pub returns-clause-leads : goal.returns-clause-leads
returns-clause-leads c = leads
