use Rattle.std.proofs.Common.{◌≡◌, ◌<◌, List, All, Contains, sym, subst, length}
use Rattle.std.proofs.lemmas.List.Elements.{All-contains}
use Rattle.std.proofs.lemmas.List.Sorted.{All-permutation}
use Rattle.std.proofs.lemmas.Result.{IfOk-weaker}
use Rattle.emc_base.proofs.Lists.{all_from_members}
use Rattle.emc_base.proofs.Mapped.{contains_at}
use Rattle.cells.specs.Cells.{is_free_in}
use Rattle.round_trip.specs.Words.{ColId, TableId, Table, Row, rows_in}
use Rattle.round_trip.proofs.Lookups.{key_columns_at}
use Rattle.table_files.specs.InOrder.{lent_rows}
use Rattle.table_files.proofs.Rising.{rising_apart}
use Rattle.keyed_rows.proofs.row_differences.Reordered.{told_there}
use Rattle.keyed_rows.proofs.row_differences.differences.difference_in.Goals as goal

pub of-requires-clause-names : goal.of-requires-clause-names
of-requires-clause-names c =
    let id : TableId = c.args.id in
    let key : List ColId = c.args.table.now.key in
    subst (All (Contains key)) (sym (key_columns_at c.args.store.now id c.args.table.now c.requires.table)) (all_from_members (Contains key) key (λ col has. has))

pub of-requires-2-clause-names : goal.of-requires-2-clause-names
of-requires-2-clause-names c =
    let id : TableId = c.args.id in
    let key : List ColId = c.args.table.now.key in
    subst (All (Contains key)) (sym (key_columns_at c.args.store.now id c.args.table.now c.requires.table)) (all_from_members (Contains key) key (λ col has. has))

pub of-requires-clause-apart : goal.of-requires-clause-apart
of-requires-clause-apart c = c.requires.keys c.args.id

pub of-requires-2-clause-apart : goal.of-requires-2-clause-apart
of-requires-2-clause-apart c = c.requires.fresh_keys c.args.id

pub first_in_table-requires-clause-shape : goal.first_in_table-requires-clause-shape
first_in_table-requires-clause-shape c =
    let id : TableId = c.args.id in
    let Long : Row → Type 0 = λ row. length row.cells ≡ length c.args.table.now.cols in
    All-permutation Long (rows_in c.args.tables.now id) (lent_rows c.in_ok-held.held) c.in_ok-held.ensures.same
    (c.requires.tables.rows id c.args.table.now c.requires.table)

pub first_in_table-requires-clause-demanded_shape : goal.first_in_table-requires-clause-demanded_shape
first_in_table-requires-clause-demanded_shape c =
    let id : TableId = c.args.id in
    let Long : Row → Type 0 = λ row. length row.cells ≡ length c.args.table.now.cols in
    All-permutation Long (rows_in c.args.fresh.now id) (lent_rows c.in_ok-demanded.demanded) c.in_ok-demanded.ensures.same
    (c.requires.fresh.rows id c.args.table.now c.requires.table)

pub first_in_table-requires-clause-within : goal.first_in_table-requires-clause-within
first_in_table-requires-clause-within c =
    All-contains (λ (table : Table). All (λ col. col.index < length table.cols) table.key) c.args.store.now.tables c.args.table.now c.requires.within
    (contains_at c.args.store.now.tables c.args.id.index c.args.table.now c.requires.table)

pub first_in_table-requires-clause-apart : goal.first_in_table-requires-clause-apart
first_in_table-requires-clause-apart c = rising_apart c.args.table.now.key (lent_rows c.in_ok-held.held) c.in_ok-held.ensures.rising

pub first_in_table-requires-clause-demanded_apart : goal.first_in_table-requires-clause-demanded_apart
first_in_table-requires-clause-demanded_apart c = rising_apart c.args.table.now.key (lent_rows c.in_ok-demanded.demanded) c.in_ok-demanded.ensures.rising

pub returns : goal.returns
returns c =
    let id : TableId = c.args.id in
    IfOk-weaker c.first_in_table.result _ _ (λ found told. told_there (is_free_in c.args.cells.now id) c.args.table.now (rows_in c.args.tables.now id) (rows_in c.args.fresh.now id)
    (lent_rows c.in_ok-held.held) (lent_rows c.in_ok-demanded.demanded) c.in_ok-held.ensures.same c.in_ok-demanded.ensures.same found told) c.first_in_table.ensures
