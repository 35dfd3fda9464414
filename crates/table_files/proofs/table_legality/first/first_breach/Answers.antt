use Rattle.std.proofs.Common.{Option, sym, subst}
use Rattle.groupings.specs.least_fault.Least.{IsLeast}
use Rattle.round_trip.specs.Words.{Breach}
use Rattle.round_trip.specs.legality.TableBreaches.{BreaksTableRule, IsBreachOfTables}
use Rattle.entity_state.specs.breach_order.Founds.{found_cmp}
use Rattle.entity_state.specs.declared.breach_order.found.Found.{Found}
use Rattle.entity_state.proofs.breach_order.FirstFound.{first_of_least}
use Rattle.table_files.specs.table_legality.Tells.{BreaksTables}
use Rattle.table_files.proofs.table_legality.Unbroken.{legal_tables}
use Rattle.table_files.proofs.table_legality.first.first_breach.Goals as goal

pub returns-in-Some : goal.returns-in-Some
returns-in-Some c =
    let store = c.args.store.now in
    let tables = c.args.tables.now in
    let P : Option Found → Type 0 = λ found. IsLeast found_cmp (BreaksTables store tables) found in
    let Q : Breach → Type 0 = λ breach. IsBreachOfTables store tables breach in
    subst Q (sym c.breach.ensures) (first_of_least (BreaksTableRule store tables) c.in-Some.found (subst P c.in-Some.is c.in_ok-found.ensures))

pub returns-in-None : goal.returns-in-None
returns-in-None c =
    let store = c.args.store.now in
    let tables = c.args.tables.now in
    let P : Option Found → Type 0 = λ found. IsLeast found_cmp (BreaksTables store tables) found in
    legal_tables store tables (subst P c.in-None.is c.in_ok-found.ensures) c.requires
