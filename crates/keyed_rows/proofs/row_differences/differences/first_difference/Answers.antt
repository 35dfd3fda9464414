use Rattle.std.proofs.Common.{◌<◌, arith, length}
use Rattle.std.proofs.lemmas.Option.{slice_get_within}
use Rattle.cells.specs.Cells.{is_free_in}
use Rattle.round_trip.specs.Words.{TableId}
use Rattle.keyed_rows.proofs.row_differences.AllTables.{none_in_table, table_told}
use Rattle.keyed_rows.proofs.row_differences.NoDifference.{same_but_free}
use Rattle.keyed_rows.proofs.row_differences.differences.first_difference.Goals as goal

pub returns-then-is_some : goal.returns-then-is_some
returns-then-is_some c =
    let id : TableId = record { index = c.loop-index.index } in
    let is_free = is_free_in c.args.cells.now in
    table_told c.args.store.now is_free c.args.tables.now c.args.fresh.now id c.at-table.result.now c.at-table.ensures c.loop-index.invariant c.in_ok-found.found c.if-is_some.ensures
    c.in_ok-found.ensures

pub loop-index-preserved : goal.loop-index-preserved
loop-index-preserved c =
    let id : TableId = record { index = c.loop-index.index } in
    let is_free = is_free_in c.args.cells.now in
    none_in_table c.args.store.now is_free c.args.tables.now c.args.fresh.now id c.at-table.result.now c.at-table.ensures c.loop-index.invariant c.in_ok-found.found c.if-is_some.ensures
    c.in_ok-found.ensures

pub returns : goal.returns
returns c = same_but_free c.args.store.now (is_free_in c.args.cells.now) c.args.tables.now c.args.fresh.now c.requires.tables c.requires.fresh c.requires.keys c.requires.fresh_keys
    c.requires.fresh_nulls
    (λ t key one two differ.
    let within : t.index < length c.args.store.now.tables = slice_get_within c.args.store.now.tables t.index differ.table differ.is_table in
    c.loop-index.invariant t (omega (arith, within, c.loop-index-test.false, c.len-index-end.ensures.count)) key one two differ)
