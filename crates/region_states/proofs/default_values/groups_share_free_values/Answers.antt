use Rattle.region_states.proofs.defaults.groups.Shared.{first_shared, next_shared}
use Rattle.region_states.proofs.default_values.groups_share_free_values.Goals as goal

pub returns-clause-first : goal.returns-clause-first
returns-clause-first c = first_shared

pub returns-clause-next : goal.returns-clause-next
returns-clause-next c = next_shared
