use Rattle.region_states.proofs.joined_laws.OneRow.{joined_row}
use Rattle.region_states.proofs.joined_laws.a_joined_pattern_is_one_row.Goals as goal

pub returns : goal.returns
returns c = record { one = joined_row }
