use Rattle.std.proofs.Common.{◌≡◌, ◌↔◌, ◌∙◌, false, nat_lt, subst, sym, rules, IsTrue, Bool}
use Rattle.std.specs.Option.{option_map_or}
use Rattle.round_trip.specs.Words.{Column}
use Rattle.groupings.specs.name_places.GivenNames.{first_place, IsGivenBefore}
use Rattle.groupings.proofs.name_places.FirstPlaces.{tells_given}
use Rattle.schema_names.proofs.columns.is_given_before.Goals as goal

pub returns : goal.returns
returns c = λ cols are.
    let col = c.args.col.now in
    let told : c.is_some_and.result ≡ option_map_or (λ first. nat_lt first c.args.place) c.place_of.result false = search rules in
    let found : first_place (λ (one : Column). one.name) cols col.name ≡ c.place_of.result =
    sym (c.place_of.ensures ∙ (λ k. are k (c.as_str.ensures.text k))) in
    let P : Bool → Type 0 = λ answer. IsTrue answer ↔ IsGivenBefore (λ (one : Column). one.name) cols c.args.place col in
    subst P (sym told) (tells_given (λ (one : Column). one.name) cols c.args.place col c.place_of.result found)
