use Rattle.std.proofs.Common.{ap, sym, ◌∙◌}
use Rattle.std.specs.Option.{is_some}
use Rattle.layouts.proofs.rule_places.LeastFound.{none_tells}
use Rattle.layouts.proofs.rule_places.Rules.{least_joined, least_where}
use Rattle.ssdl_model.specs.ssdl_lists.Columns.{column_simple}
use Rattle.ssdl_model.specs.ssdl_rules.TableRules.{IsColumnBoundFault, IsColumnTypeFault}
use Rattle.ssdl_model.proofs.ssdl_rules.columns.ColumnsFinderRawPropFault.find.Goals as goal

pub returns : goal.returns
returns c =
    let column = c.args.item.now in
    let named = c.column_simple.ensures ∙ ap column_simple c.as_str-kind.ensures.text in
    least_joined (IsColumnBoundFault column) (IsColumnTypeFault column) c.in_ok-bound.bound c.in_ok-ty.ty c.earlier.result c.earlier.ensures
    (least_where _ c.in_ok-bound.bound c.column_breaks_bound.ensures c.in_ok-bound.ensures)
    (least_where _ c.in_ok-ty.ty (none_tells c.is_none-has_no_type.result (column_simple column.kind) (ap is_some (sym named) ∙ c.is_none-has_no_type.ensures)) c.in_ok-ty.ensures)
