use Rattle.std.proofs.Common.{◌≡◌, refl, List, All, length, sym, subst}
use Rattle.std.proofs.lemmas.Result.{IfOk-weaker}
use Rattle.emc_base.proofs.Lists.{all_from_members}
use Rattle.cells.specs.Cells.{is_free_in}
use Rattle.round_trip.specs.Words.{ColId}
use Rattle.keyed_rows.specs.declared.row_groups.groups.KeyGroup.{KeyGroup}
use Rattle.table_files.specs.InOrder.{lent_rows}
use Rattle.keyed_rows.specs.row_differences.Sides.{AreRowGroups}
use Rattle.keyed_rows.specs.declared.row_differences.sides.SidedRow.{SidedRow}
use Rattle.keyed_rows.proofs.row_differences.OneTable.{rows_as_long}
use Rattle.keyed_rows.proofs.row_differences.SideBySide.{alike_none_differ}
use Rattle.keyed_rows.proofs.row_differences.differences.first_in_table.Goals as goal

pub first_of_groups-found-requires : goal.first_of_groups-found-requires
first_of_groups-found-requires c =
    let groups = c.as_slice-2.result.now in
    let P : List ColId → Type 0 = λ cols. AreRowGroups cols (lent_rows c.args.held.now) (lent_rows c.args.demanded.now) groups in
    let Q : List (KeyGroup SidedRow) → Type 0 = λ list. AreRowGroups c.as_slice.result.now (lent_rows c.args.held.now) (lent_rows c.args.demanded.now) list in
    let are = subst P c.as_slice.ensures.items (subst Q (sym c.as_slice-2.ensures.value) c.in_ok-groups.ensures) in
    all_from_members (λ (group : KeyGroup SidedRow). All (λ one. length one.row.now.cells ≡ length c.args.table.now.cols) group.items.items) groups
    (rows_as_long (is_free_in c.args.cells.now c.args.id) c.args.table.now (lent_rows c.args.held.now) (lent_rows c.args.demanded.now) groups are (length c.args.table.now.cols)
    c.requires.shape c.requires.demanded_shape)

pub returns-then-are_alike : goal.returns-then-are_alike
returns-then-are_alike c = alike_none_differ (is_free_in c.args.cells.now c.args.id) c.args.table.now (lent_rows c.args.held.now) (lent_rows c.args.demanded.now)
    c.requires.demanded_apart (c.if-are_alike.ensures.0 refl)

pub returns : goal.returns
returns c =
    let groups = c.as_slice-2.result.now in
    let P : List ColId → Type 0 = λ cols. AreRowGroups cols (lent_rows c.args.held.now) (lent_rows c.args.demanded.now) groups in
    let Q : List (KeyGroup SidedRow) → Type 0 = λ list. AreRowGroups c.as_slice.result.now (lent_rows c.args.held.now) (lent_rows c.args.demanded.now) list in
    let are = subst P c.as_slice.ensures.items (subst Q (sym c.as_slice-2.ensures.value) c.in_ok-groups.ensures) in
    IfOk-weaker c.first_of_groups-found.result _ _
    (λ found told. told (lent_rows c.args.held.now) (lent_rows c.args.demanded.now) c.requires.apart c.requires.demanded_apart are) c.first_of_groups-found.ensures
