use Rattle.std.proofs.Common.{◌++◌, ◌∙◌, ap, map}
use Rattle.row_plans.specs.Sides.{keyed_row, shown_sided}
use Rattle.row_plans.specs.declared.altered.sides.Side.TheVariants.{Before, Afterwards}
use Rattle.row_plans.proofs.altering.Grouped.{are_row_groups}
use Rattle.row_plans.proofs.altered.sides.row_groups.Goals as goal

pub returns : goal.returns
returns c =
    let cols = c.args.cols.now in
    let last = map (keyed_row Afterwards cols) c.args.new.now in
    are_row_groups cols c.args.old.now c.args.new.now c.add_rows-2.new.keyed.items c.in_ok-groups.groups.items
    (c.in_ok-add_rows-2.ensures ∙ ap (λ rows. rows ++ last) (c.in_ok-add_rows.ensures ∙ ap (λ none. map shown_sided none ++ map (keyed_row Before cols) c.args.old.now) c.new-keyed.ensures.items))
    c.in_ok-groups.ensures
