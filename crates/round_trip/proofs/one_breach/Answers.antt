use Rattle.round_trip.specs.legality.Breaches.{BreaksRule}
use Rattle.round_trip.specs.legality.TableBreaches.{BreaksTableRule}
use Rattle.round_trip.proofs.FirstBreach.{one_first}
use Rattle.round_trip.proofs.StateBreaches.{state_rules_tell_one}
use Rattle.round_trip.proofs.TableBreaches.{table_rules_tell_one}
use Rattle.round_trip.proofs.one_breach.Goals as goal

pub returns : goal.returns
returns c = record {
  states = λ model state. one_first (BreaksRule model state) (state_rules_tell_one model state);
  tables = λ store tables. one_first (BreaksTableRule store tables) (table_rules_tell_one store tables);
}
