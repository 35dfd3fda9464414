use Rattle.std.proofs.Common.{◌∙◌, List, map, subst}
use Rattle.std.specs.Borrow.{Bor}
use Rattle.round_trip.specs.Words.{ColId, Row, rows_in, key_columns}
use Rattle.table_files.specs.InOrder.{IsInOrderOf}
use Rattle.table_files.proofs.Rising.{rise_strictly}
use Rattle.table_files.proofs.key_order.KeyOrder.of.Goals as goal

pub returns : goal.returns
returns c =
    let sorted = map (λ (row : Bor Row). row.now) c.in_ok-rows.rows.items in
    let P : List ColId → Type 0 = λ cols. IsInOrderOf cols c.as_slice.result.now sorted in
    let Q : List Row → Type 0 = λ rows. IsInOrderOf c.args.order.now rows sorted in
    let order = subst Q (c.as_slice.ensures.items ∙ c.rows.ensures) (subst P c.as_slice-2.ensures.items c.in_ok-rows.ensures) in
    record {
      same = order.same;
      rising = rise_strictly c.args.order.now (key_columns c.args.store.now c.args.table) (rows_in c.args.tables.now c.args.table) sorted c.requires.names c.requires.apart order;
    }
