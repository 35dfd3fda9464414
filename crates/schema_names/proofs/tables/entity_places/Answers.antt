use Rattle.std.proofs.Common.{◌≡◌, rules, ap, ◌∙◌}
use Rattle.std.proofs.lemmas.Result.{IfOk-weaker}
use Rattle.groupings.specs.declared.name_places.places.Places.{Places}
use Rattle.groupings.specs.name_places.GivenNames.{first_place}
use Rattle.groupings.specs.name_places.PlacesIn.{place_in}
use Rattle.emc_base.proofs.facts.Beside.{first_of, second_of}
use Rattle.schema_names.proofs.tables.entity_places.Goals as goal

pub returns-clause-types : goal.returns-clause-types
returns-clause-types c =
    let Tells : Places → Type 0 = λ places. place_in places ≡ first_place (λ type. type.name) c.args.model.now.types in
    first_of c.in_ok-types.types c.places_by-2.result c.beside.result Tells c.beside.ensures
    (c.in_ok-types.ensures (λ type. type.name) (λ type name lent. search rules) ∙ ap (first_place (λ type. type.name)) c.as_slice.ensures.items)

pub returns-clause-sets : goal.returns-clause-sets
returns-clause-sets c =
    let Tells : Places → Type 0 = λ places. place_in places ≡ first_place (λ set. set.name) c.args.model.now.sets in
    second_of c.in_ok-types.types c.places_by-2.result c.beside.result Tells c.beside.ensures
    (IfOk-weaker c.places_by-2.result _ Tells
    (λ places told. told (λ set. set.name) (λ set name lent. search rules) ∙ ap (first_place (λ set. set.name)) c.as_slice-2.ensures.items)
    c.places_by-2.ensures)
