use Rattle.std.proofs.Common.{◌≡◌, rules, ap, ◌∙◌}
use Rattle.std.proofs.lemmas.Result.{IfOk-weaker}
use Rattle.groupings.specs.declared.name_places.places.Places.{Places}
use Rattle.groupings.specs.name_places.GivenNames.{first_place}
use Rattle.groupings.specs.name_places.PlacesIn.{place_in}
use Rattle.emc_base.proofs.facts.Beside.{first_of, second_of}
use Rattle.schema_names.proofs.tables.association_places.Goals as goal

pub returns-clause-sets : goal.returns-clause-sets
returns-clause-sets c =
    let Tells : Places → Type 0 = λ places. place_in places ≡ first_place (λ assoc. assoc.set_name) c.args.model.now.assocs in
    first_of c.in_ok-sets.sets c.places_by-2.result c.beside.result Tells c.beside.ensures
    (c.in_ok-sets.ensures (λ assoc. assoc.set_name) (λ assoc name lent. search rules) ∙ ap (first_place (λ assoc. assoc.set_name)) c.as_slice-assocs.ensures.items)

pub returns-clause-associations : goal.returns-clause-associations
returns-clause-associations c =
    let Tells : Places → Type 0 = λ places. place_in places ≡ first_place (λ assoc. assoc.assoc_name) c.args.model.now.assocs in
    second_of c.in_ok-sets.sets c.places_by-2.result c.beside.result Tells c.beside.ensures
    (IfOk-weaker c.places_by-2.result _ Tells
    (λ places told. told (λ assoc. assoc.assoc_name) (λ assoc name lent. search rules) ∙ ap (first_place (λ assoc. assoc.assoc_name)) c.as_slice-assocs.ensures.items)
    c.places_by-2.ensures)
