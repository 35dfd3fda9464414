use Rattle.std.proofs.Common.{◌≡◌, ◌↔◌, IsTrue, MatchOption, Option, None, ℕ, sym, ap, subst, ◌∙◌}
use Rattle.std.specs.Option.{is_some}
use Rattle.layouts.proofs.rule_places.LeastFound.{none_tells}
use Rattle.csdl_names.specs.csdl_lists.References.{names_in}
use Rattle.ssdl_model.specs.ssdl_lists.Tables.{table_of}
use Rattle.ssdl_model.proofs.ssdl_rules.names.Owners.is_of_no_table.Goals as goal

pub returns : goal.returns
returns c =
    let self = c.args.self.now in
    let model = self.lookups.now.model.now in
    let table : table_of (names_in model) model c.in-Some.ty ≡ c.table_at.result = sym (c.table_at.ensures ∙ (λ k. self.owned k c.in-Some.ty)) in
    let P : Option ℕ → Type 0 = λ type. IsTrue c.is_none.result ↔ MatchOption type ⊥ (λ i. table_of (names_in model) model i ≡ None) in
    subst P (sym c.in-Some.is ∙ c.type_named.ensures)
    (none_tells c.is_none.result (table_of (names_in model) model c.in-Some.ty) (ap is_some table ∙ c.is_none.ensures))
