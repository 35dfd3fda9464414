use Rattle.std.proofs.Common.{◌↔◌, IsTrue, List, ℕ, subst}
use Rattle.ssdl_model.specs.ssdl_lists.Columns.{HasColumnLength}
use Rattle.ssdl_model.proofs.ssdl_rules.Told.{bound_told}
use Rattle.ssdl_model.proofs.ssdl_rules.columns.column_breaks_bound.Goals as goal

pub returns : goal.returns
returns c =
    let P : List ℕ → Type 0 = λ kind. IsTrue c.has_column_length.result ↔ HasColumnLength kind in
    let same = bound_told c.args.column.now.bound (subst P c.as_str.ensures.text c.has_column_length.ensures) in
    (λ is. same.0 (c.breaks_bound.ensures.0 is), λ holds. c.breaks_bound.ensures.1 (same.1 holds))
