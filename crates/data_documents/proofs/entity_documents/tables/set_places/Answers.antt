use Rattle.std.proofs.Common.{◌≡◌, rules, ap, ◌∙◌}
use Rattle.std.proofs.lemmas.Result.{IfOk-weaker}
use Rattle.groupings.specs.declared.name_places.places.Places.{Places}
use Rattle.groupings.specs.name_places.GivenNames.{first_place}
use Rattle.groupings.specs.name_places.PlacesIn.{place_in}
use Rattle.emc_base.proofs.facts.Beside.{first_of, second_of}
use Rattle.data_documents.proofs.entity_documents.tables.set_places.Goals as goal

pub returns-clause-sets : goal.returns-clause-sets
returns-clause-sets c =
    let Tells : Places → Type 0 = λ places. place_in places ≡ first_place (λ set. set.name) c.args.model.now.sets in
    first_of c.in_ok-sets.sets c.places_by-2.result c.beside.result Tells c.beside.ensures
    (c.in_ok-sets.ensures (λ set. set.name) (λ set name lent. search rules) ∙ ap (first_place (λ set. set.name)) c.as_slice.ensures.items)

pub returns-clause-association_sets : goal.returns-clause-association_sets
returns-clause-association_sets c =
    let Tells : Places → Type 0 = λ places. place_in places ≡ first_place (λ assoc. assoc.set_name) c.args.model.now.assocs in
    second_of c.in_ok-sets.sets c.places_by-2.result c.beside.result Tells c.beside.ensures
    (IfOk-weaker c.places_by-2.result _ Tells
    (λ places told. told (λ assoc. assoc.set_name) (λ assoc name lent. search rules) ∙ ap (first_place (λ assoc. assoc.set_name)) c.as_slice-assocs.ensures.items)
    c.places_by-2.ensures)
