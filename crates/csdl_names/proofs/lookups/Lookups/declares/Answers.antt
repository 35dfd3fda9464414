use Rattle.std.proofs.Common.{◌↔◌, Bool, IsTrue, sym, ap, subst, ◌∙◌}
use Rattle.std.specs.Option.{is_some}
use Rattle.groupings.proofs.name_places.KnownNames.{some_named}
use Rattle.csdl_names.specs.Unresolved.{Declares}
use Rattle.csdl_names.proofs.PropTables.{places_at}
use Rattle.csdl_names.proofs.lookups.Lookups.declares.Goals as goal

pub returns : goal.returns
returns c = λ type here.
    let self = c.args.self.now in
    let places = places_at self.props.now self.model.now.types self.declared c.args.place type here c.in-Some.props.now (sym c.in-Some.ensures.item) in
    let told = c.is_some.ensures ∙ ap is_some (c.place_of.ensures ∙ (λ k. places k (c.as_str.ensures.text k))) in
    let P : Bool → Type 0 = λ answer. IsTrue answer ↔ Declares type c.args.name.now in
    subst P (sym told) (some_named (λ prop. prop.name) type.props c.args.name.now)
