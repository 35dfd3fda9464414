use Rattle.table_files.proofs.table_legality.Flat.{least_breach}
use Rattle.entity_state.proofs.breach_order.Finds.{along_search}
use Rattle.table_files.proofs.table_legality.first.first_found.Goals as goal

pub returns : goal.returns
returns c =
    let cells = c.first_among-cells.result in
    let keys = c.first_among-keys.result in
    let references = c.first_among-references.result in
    least_breach c.args.store.now c.args.tables.now cells keys references c.earlier_of.result c.earlier_of-2.result
    (along_search _ _ _ cells c.as_slice.ensures.items c.first_among-cells.ensures)
    (along_search _ _ _ keys c.as_slice-2.ensures.items c.first_among-keys.ensures)
    (along_search _ _ _ references c.as_slice-3.ensures.items c.first_among-references.ensures)
    c.earlier_of.ensures c.earlier_of-2.ensures
