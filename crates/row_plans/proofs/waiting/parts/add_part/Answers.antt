use Rattle.std.proofs.Common.{List, Bool, sym, ap, ◌∙◌}
use Rattle.std.specs.Option.{option_copied}
use Rattle.std.specs.Borrow.{Bor}
use Rattle.std.specs.List.{list_all}
use Rattle.round_trip.specs.Words.{Value}
use Rattle.row_plans.specs.Roles.{is_value}
use Rattle.row_plans.proofs.waiting.Given.{none_given, one_given}
use Rattle.row_plans.proofs.waiting.parts.add_part.Goals as goal

abbrev whole_cells : List (Bor Value) → Bool
whole_cells cells = list_all (λ (cell : Bor Value). is_value cell.now) cells

pub returns-in_ok-push : goal.returns-in_ok-push
returns-in_ok-push c = one_given c.args.key.now c.args.alteration.now c.args.part c.in-Some.row.now
    (sym c.row_of.ensures ∙ ap option_copied c.in-Some.is)
    c.in_ok-cells.cells c.cols_of.result.now c.cols_of.ensures c.in_ok-cells.ensures c.have_values.result (c.have_values.ensures ∙ ap whole_cells c.deref.ensures.value)
    c.args.parts.now.items c.push.new.self.items c.if-have_values.true c.in_ok-push.ensures.items

pub returns-else-have_values : goal.returns-else-have_values
returns-else-have_values c = none_given c.args.key.now c.args.alteration.now c.args.part c.in-Some.row.now
    (sym c.row_of.ensures ∙ ap option_copied c.in-Some.is)
    c.in_ok-cells.cells c.cols_of.result.now c.cols_of.ensures c.in_ok-cells.ensures c.have_values.result (c.have_values.ensures ∙ ap whole_cells c.deref.ensures.value)
    c.args.parts.now.items c.if-have_values.false
