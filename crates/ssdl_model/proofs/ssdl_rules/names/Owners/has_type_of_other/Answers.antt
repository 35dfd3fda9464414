use Rattle.std.proofs.Common.{◌≡◌, ◌↔◌, ◌<◌, IsTrue, MatchOption, Option, ℕ, sym, subst, ◌∙◌}
use Rattle.csdl_names.specs.csdl_lists.References.{names_in}
use Rattle.ssdl_model.specs.ssdl_lists.Tables.{table_of}
use Rattle.ssdl_model.proofs.ssdl_rules.names.Owners.has_type_of_other.Goals as goal

pub returns : goal.returns
returns c =
    let self = c.args.self.now in
    let model = self.lookups.now.model.now in
    let table : c.table_at.result ≡ table_of (names_in model) model c.in-Some.ty = c.table_at.ensures ∙ (λ k. self.owned k c.in-Some.ty) in
    let Before : Option ℕ → Type 0 = λ found. IsTrue c.is_before.result ↔ MatchOption found ⊥ (λ first. first < c.args.place) in
    let Other : Option ℕ → Type 0 = λ type. IsTrue c.is_before.result ↔ MatchOption type ⊥ (λ i. MatchOption (table_of (names_in model) model i) ⊥ (λ first. first < c.args.place)) in
    subst Other (sym c.in-Some.is ∙ c.type_named.ensures) (subst Before table c.is_before.ensures)
