use Rattle.std.proofs.Common.{◌≡◌, ◌↔◌, ◌∙◌, false, nat_lt, subst, sym, rules, IsTrue, Bool}
use Rattle.std.specs.Option.{option_map_or}
use Rattle.groupings.specs.name_places.GivenNames.{first_place, IsGivenBefore}
use Rattle.groupings.proofs.name_places.FirstPlaces.{tells_given}
use Rattle.groupings.proofs.name_places.places.Places.is_given_before.Goals as goal

pub returns : goal.returns
returns g c = λ items are.
    let name_in = g.T.Named.name_in in
    let item = c.args.item.now in
    let told : c.is_some_and.result ≡ option_map_or (λ first. nat_lt first c.args.place) c.place_of.result false = search rules in
    let found : first_place name_in items (name_in item) ≡ c.place_of.result =
    sym (c.place_of.ensures ∙ (λ k. are k ((c.as_str.ensures.text ∙ c.name.ensures) k))) in
    let P : Bool → Type 0 = λ answer. IsTrue answer ↔ IsGivenBefore name_in items c.args.place item in
    subst P (sym told) (tells_given name_in items c.args.place item c.place_of.result found)
