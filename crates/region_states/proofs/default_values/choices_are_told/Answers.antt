use Rattle.region_states.proofs.defaults.Changes.{free_choice, null_choice, short_choice}
use Rattle.region_states.proofs.default_values.choices_are_told.Goals as goal

pub returns-clause-null : goal.returns-clause-null
returns-clause-null c = null_choice

pub returns-clause-free : goal.returns-clause-free
returns-clause-free c = free_choice

pub returns-clause-short : goal.returns-clause-short
returns-clause-short c = short_choice
