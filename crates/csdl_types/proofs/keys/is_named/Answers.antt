use Rattle.std.proofs.Common.{◌≡◌, ◌↔◌, ◌∙◌, Bool, Contains, IsTrue, subst, sym, ap}
use Rattle.groupings.specs.name_places.GivenNames.{first_place}
use Rattle.groupings.specs.name_places.PlacesIn.{place_in}
use Rattle.groupings.proofs.name_places.KnownNames.{named_by_place}
use Rattle.csdl_types.proofs.keys.is_named.Goals as goal

pub returns : goal.returns
returns c = λ names are.
    let found : first_place (λ other. other) names c.args.name.now ≡ c.place_of.result =
    sym (c.place_of.ensures ∙ ap (place_in c.args.places.now) c.as_str.ensures.text ∙ (λ k. are k c.args.name.now)) in
    let P : Bool → Type 0 = λ answer. IsTrue answer ↔ Contains names c.args.name.now in
    subst P (sym c.is_some.ensures) (named_by_place names c.args.name.now c.place_of.result found)
