use Rattle.std.proofs.Common.{◌≡◌, ◌<◌, ◌++◌, List, [], flat_map, length, map, refl, sym, subst, ap, ◌∙◌, arith}
use Rattle.std.proofs.lemmas.Option.{slice_get_read, slice_get_within}
use Rattle.emc_base.specs.Lists.{At}
use Rattle.round_trip.specs.Words.{Table, TableId}
use Rattle.regions.specs.Patterns.{rows_at}
use Rattle.symbolic_rows.specs.Grouped.{rows_by}
use Rattle.symbolic_rows.specs.Written.{in_symbols}
use Rattle.symbolic_rows.proofs.Behind.{all_numbered, one_more}
use Rattle.symbolic_rows.proofs.RowCells.{rows_are}
use Rattle.symbolic_rows.proofs.rows.pattern_by.Goals as goal

pub loop-index-preserved : goal.loop-index-preserved
loop-index-preserved c =
    let tables = c.args.store.now.tables in
    let writings = map in_symbols c.args.writings.items in
    let i = c.loop-index.index in
    let t : TableId = record { index = i } in
    let table : Table = c.table-item.result in
    let here : At tables i table = subst (λ (list : List Table). At list i table) c.as_slice-table-items.ensures.items
    (slice_get_read _ _ i _ refl c.loop-index-test.true c.table-item.is) in
    let size : c.len.result ≡ length tables = c.len.ensures.count in
    let within : i < length tables = slice_get_within tables i table here in
    let grouped = c.in_ok-grouped.grouped.items in
    let own : At grouped i c.index.result.now =
    slice_get_read grouped c.len.result i c.index.result.now (sym c.in_ok-grouped.ensures.size) (omega (arith, size, within)) c.index.ensures in
    let to_table = ap (map in_symbols) c.as_slice.ensures.value ∙ c.in_ok-grouped.ensures.each i c.index.result.now own in
    one_more (λ placed. rows_at writings (record { index = placed.0 }) placed.1) tables i table here [] c.loop-index.rows c.add_row.new.rows c.loop-index.invariant
    (c.in_ok-add_row.ensures ∙ ap (λ more. c.loop-index.rows ++ more) (ap (rows_by t table) to_table ∙ rows_are writings t table))

pub returns : goal.returns
returns c =
    let writings = map in_symbols c.args.writings.items in
    let passed = all_numbered c.args.store.now.tables c.as_slice-table-items.result.now c.loop-index.index c.as_slice-table-items.ensures.items c.loop-index-test.false in
    let rows = c.loop-index.invariant ∙ ap (flat_map (λ placed. rows_at writings (record { index = placed.0 }) placed.1)) passed in
    λ k. record { rows = rows k }
