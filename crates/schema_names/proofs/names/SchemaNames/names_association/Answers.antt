use Rattle.std.proofs.Common.{◌≡◌, ◌↔◌, ◌∙◌, ℕ, List, Any, Bool, IsTrue, MatchOption, Option, sym, ap, subst}
use Rattle.std.specs.Option.{is_some}
use Rattle.groupings.proofs.name_places.KnownNames.{some_named}
use Rattle.schema_names.proofs.names.SchemaNames.names_association.Goals as goal

pub returns : goal.returns
returns c =
    let assocs = c.args.self.now.model.now.assocs in
    let name = c.in-Some.name.now in
    let told = c.is_some.ensures ∙ ap is_some (c.place_of.ensures ∙ (λ k. c.args.self.now.tabled.associations k name)) in
    let P : Bool → Type 0 = λ answer. IsTrue answer ↔ Any (λ assoc. assoc.assoc_name ≡ name) assocs in
    let Q : Option (List ℕ) → Type 0 = λ found. IsTrue c.is_some.result ↔ MatchOption found ⊥ (λ given. Any (λ assoc. assoc.assoc_name ≡ given) assocs) in
    subst Q c.in-Some.ensures (subst P (sym told) (some_named (λ assoc. assoc.assoc_name) assocs name))
