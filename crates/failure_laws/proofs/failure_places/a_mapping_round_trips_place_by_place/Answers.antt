use Rattle.failure_laws.proofs.places.There.{none_dangles, none_fails}
use Rattle.failure_laws.proofs.failure_places.a_mapping_round_trips_place_by_place.Goals as goal

pub returns-clause-dangling : goal.returns-clause-dangling
returns-clause-dangling c = none_dangles

pub returns-clause-none : goal.returns-clause-none
returns-clause-none c = none_fails

pub returns-clause-round_trips : goal.returns-clause-round_trips
returns-clause-round_trips c = λ basis never kind. never kind
