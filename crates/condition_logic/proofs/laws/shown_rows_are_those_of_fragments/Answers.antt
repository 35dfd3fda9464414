use Rattle.condition_logic.proofs.Saying.{shown_by_fragment, shown_by_links}
use Rattle.condition_logic.proofs.laws.shown_rows_are_those_of_fragments.Goals as goal

pub returns : goal.returns
returns c = record { entities = shown_by_fragment; links = shown_by_links }
