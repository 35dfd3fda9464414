use Rattle.std.proofs.Common.{List, subst₂, sym}
use Rattle.round_trip.specs.Words.{ColId, Row}
use Rattle.table_files.specs.table_legality.References.{HoldsCells}
use Rattle.table_files.proofs.table_legality.Held.{lost_by_key}
use Rattle.entity_state.proofs.breach_order.Finds.{along}
use Rattle.table_files.proofs.table_legality.references.ForeignKeysFinderForeignKeyFound.find.Goals as goal

pub returns : goal.returns
returns c =
    let held = c.in_ok-held.held in
    let P : List Row → List ColId → Type 0 = λ rows cols. HoldsCells rows cols held in
    lost_by_key c.args.self.now.store.now c.args.self.now.tables.now c.args.k c.args.key.now c.in-Some.table.now held c.in_ok-found.found
    (sym c.in-Some.ensures.item) (subst₂ P c.rows_at-targets.ensures c.as_slice.ensures.items c.in_ok-held.ensures)
    (along _ _ _ c.in_ok-found.found c.rows_at-rows.ensures c.in_ok-found.ensures)
