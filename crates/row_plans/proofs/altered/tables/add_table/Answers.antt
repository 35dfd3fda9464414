use Rattle.std.proofs.Common.{List, sym, ap, ◌∙◌, ◌++◌}
use Rattle.std.specs.List.{flat_map}
use Rattle.std.proofs.lemmas.Result.{IfOk-weaker}
use Rattle.keyed_rows.specs.declared.row_groups.groups.KeyGroup.{KeyGroup}
use Rattle.row_plans.specs.Altered.{altered_in}
use Rattle.row_plans.specs.declared.altered.sides.SidedRow.{SidedRow}
use Rattle.row_plans.proofs.altering.Tables.{nothing_added}
use Rattle.row_plans.proofs.altered.tables.add_table.Goals as goal

pub returns-then-is_empty-2 : goal.returns-then-is_empty-2
returns-then-is_empty-2 c = nothing_added c.args.id c.args.key.now c.args.old.now c.args.new.now c.args.found.now.items (sym c.if-is_empty.ensures) (sym c.if-is_empty-2.ensures)

pub returns : goal.returns
returns c = IfOk-weaker c.add_groups.result _ _ (λ done is. record {
  groups = c.in_ok-groups.groups.items;
  are = c.in_ok-groups.ensures;
  adds = is ∙ ap (λ (groups : List (KeyGroup SidedRow)). c.args.found.now.items ++ flat_map (altered_in c.args.id) groups) c.as_slice.ensures.value;
}) c.add_groups.ensures
