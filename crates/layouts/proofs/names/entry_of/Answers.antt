use Rattle.std.proofs.Common.{ap, sym, ◌∙◌}
use Rattle.std.specs.Option.{option_or}
use Rattle.layouts.specs.Layouts.{everywhere, row_of}
use Rattle.layouts.proofs.Rows.{row_lent}
use Rattle.layouts.proofs.names.entry_of.Goals as goal

pub returns-in-Some : goal.returns-in-Some
returns-in-Some c =
    ap (λ row. option_or row (everywhere c.args.name.now))
    (sym c.in-Some.is ∙ c.row_of.ensures ∙ row_lent c.rows_of.result.now c.args.name.now ∙ ap (λ rows. row_of rows c.args.name.now) c.rows_of.ensures)

pub returns-in-None : goal.returns-in-None
returns-in-None c =
    c.everywhere.ensures
    ∙ ap (λ row. option_or row (everywhere c.args.name.now))
    (sym c.in-None.is ∙ c.row_of.ensures ∙ row_lent c.rows_of.result.now c.args.name.now ∙ ap (λ rows. row_of rows c.args.name.now) c.rows_of.ensures)
