use Rattle.std.proofs.Common.{◌≡◌, All, length, sym, subst}
use Rattle.std.proofs.lemmas.List.{take_all}
use Rattle.std.proofs.lemmas.List.Elements.{All-contains}
use Rattle.cells.specs.Cells.{is_free_in}
use Rattle.keyed_rows.specs.declared.row_groups.groups.KeyGroup.{KeyGroup}
use Rattle.keyed_rows.specs.declared.row_differences.sides.SidedRow.{SidedRow}
use Rattle.keyed_rows.proofs.row_differences.OneTable.{IsClean, none_differ, none_told, some_told}
use Rattle.keyed_rows.proofs.row_differences.differences.first_of_groups.Goals as goal

pub of_group-requires : goal.of_group-requires
of_group-requires c =
    All-contains (λ (group : KeyGroup SidedRow). All (λ one. length one.row.now.cells ≡ length c.args.table.now.cols) group.items.items) c.args.groups.now c.group-item.result
    c.requires (c.loop-group.group-index, c.loop-group-test.true, sym c.group-item.is)

pub returns-then-is_some : goal.returns-then-is_some
returns-then-is_some c = λ held demanded apart demanded_apart are.
    some_told (is_free_in c.args.cells.now c.args.id) c.args.table.now held demanded c.args.groups.now are
    apart demanded_apart c.group-item.result c.loop-group.group-index c.loop-group-test.true (sym c.group-item.is) (c.loop-group.invariant held demanded apart demanded_apart are)
    c.in_ok-found.found c.if-is_some.ensures c.in_ok-found.ensures

pub loop-group-preserved : goal.loop-group-preserved
loop-group-preserved c = λ held demanded apart demanded_apart are.
    none_told (is_free_in c.args.cells.now c.args.id) c.args.table.now held demanded c.args.groups.now are
    apart demanded_apart c.group-item.result c.loop-group.group-index c.loop-group-test.true (sym c.group-item.is) (c.loop-group.invariant held demanded apart demanded_apart are)
    c.in_ok-found.found c.if-is_some.ensures c.in_ok-found.ensures

pub returns : goal.returns
returns c = λ held demanded apart demanded_apart are.
    let Clean = IsClean (is_free_in c.args.cells.now c.args.id) c.args.table.now held demanded in
    none_differ (is_free_in c.args.cells.now c.args.id) c.args.table.now held demanded c.args.groups.now are
    (subst (All Clean) (take_all c.loop-group.group-index c.args.groups.now c.loop-group-test.false) (c.loop-group.invariant held demanded apart demanded_apart are))
