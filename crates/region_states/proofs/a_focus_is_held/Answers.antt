use Rattle.region_states.proofs.Held.{few_links, focus_held}
use Rattle.region_states.proofs.a_focus_is_held.Goals as goal

pub returns-clause-held : goal.returns-clause-held
returns-clause-held c = focus_held

pub returns-clause-few : goal.returns-clause-few
returns-clause-few c = few_links
