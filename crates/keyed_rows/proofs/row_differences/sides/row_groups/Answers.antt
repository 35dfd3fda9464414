use Rattle.std.proofs.Common.{◌++◌, ◌∙◌, ap, map}
use Rattle.table_files.specs.InOrder.{lent_rows}
use Rattle.keyed_rows.specs.row_differences.Sides.{keyed_row, shown_sided}
use Rattle.keyed_rows.specs.declared.row_differences.sides.Side.TheVariants.{Demanded}
use Rattle.keyed_rows.proofs.row_differences.SidedGroups.{are_row_groups}
use Rattle.keyed_rows.proofs.row_differences.sides.row_groups.Goals as goal

pub returns : goal.returns
returns c =
    let cols = c.args.cols.now in
    let last = map (keyed_row Demanded cols) (lent_rows c.args.demanded.now) in
    are_row_groups cols (lent_rows c.args.held.now) (lent_rows c.args.demanded.now) c.add_rows-2.new.keyed.items c.in_ok-groups.groups.items
    (c.in_ok-add_rows-2.ensures ∙ ap (λ rows. rows ++ last) (c.in_ok-add_rows.ensures ∙ ap (λ none. map shown_sided none ++ map (keyed_row _ cols) (lent_rows c.args.held.now)) c.new-keyed.ensures.items))
    c.in_ok-groups.ensures
