use Rattle.region_states.proofs.focus.Flags.{some_region, unflagged, flagged_one}
use Rattle.region_states.proofs.focus_laws.flags_tell_links.Goals as goal

pub returns-clause-held : goal.returns-clause-held
returns-clause-held c = some_region

pub returns-clause-none : goal.returns-clause-none
returns-clause-none c = unflagged

pub returns-clause-one : goal.returns-clause-one
returns-clause-one c = flagged_one
