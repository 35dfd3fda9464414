use Rattle.std.proofs.Common.{◌≡◌, ◌↔◌, ◌∙◌, Bool, IsTrue, ap, subst, sym}
use Rattle.std.specs.Ordering.{is_eq}
use Rattle.emc_base.specs.Order.{value_cmp}
use Rattle.edm_types.specs.Rows.{cell_of}
use Rattle.table_files.proofs.SameCells.{same_value}
use Rattle.table_files.proofs.cells.has_cell.Goals as goal

pub returns : goal.returns
returns c =
    let cell = cell_of c.args.row.now c.args.col in
    let is : c.is_eq.result ≡ is_eq (value_cmp cell c.args.value.now) =
    c.is_eq.ensures ∙ ap is_eq (c.compare.ensures ∙ ap (λ value. value_cmp value c.args.value.now) c.cell_or.ensures) in
    let P : Bool → Type 0 = λ same. IsTrue same ↔ (cell ≡ c.args.value.now) in
    subst P (sym is) (same_value cell c.args.value.now)
