use Rattle.dangling_keys.proofs.failing.RoundTrip.{by_conflicts}
use Rattle.dangling_keys.proofs.laws.a_mapping_round_trips_by_its_conflicts.Goals as goal

pub returns : goal.returns
returns c = by_conflicts
