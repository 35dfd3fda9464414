use Rattle.std.proofs.Common.{Some, flat_map, ap, sym, ◌∙◌}
use Rattle.std.proofs.lemmas.Option.{slice_get-get_or}
use Rattle.emc_base.specs.Lists.{At}
use Rattle.round_trip.specs.Words.{Table}
use Rattle.region_partition.specs.mapping_limits.Checked.{fault_of, of_table}
use Rattle.region_partition.proofs.mapping_limits.Told.{handed_on}
use Rattle.region_partition.proofs.mapping_limits.Turns.{first_here}
use Rattle.region_partition.proofs.mapping_limits.documents.check_tables.Goals as goal

-- the first table that passes the limit
pub returns-in_err-check_table : goal.returns-in_err-check_table
returns-in_err-check_table c =
    let tables = c.args.tables.now in
    let i = c.loop-table.table-index in
    let table : Table = c.table-item.result in
    let found = c.in_err-check_table.field-0.0 in
    let here : At tables i table = slice_get-get_or tables i table c.loop-table-test.true ∙ ap Some (sym c.table-item.is) in
    handed_on (flat_map of_table tables) found c.from_residual.result c.from_residual.ensures
    (first_here of_table tables i table here c.loop-table.invariant (fault_of found) c.in_err-check_table.ensures)
