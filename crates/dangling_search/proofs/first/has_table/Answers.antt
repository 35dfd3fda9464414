use Rattle.std.proofs.Common.{Some, ap, subst, ◌∙◌}
use Rattle.emc_base.proofs.Lists.{at_once}
use Rattle.cells.specs.Parts.{schema_in}
use Rattle.round_trip.specs.Words.{AssocId, At}
use Rattle.table_owners.specs.declared.places.LinkPlace.TheVariants as place
use Rattle.region_states.proofs.joined_laws.Told.{joined_told, told_joined}
use Rattle.dangling_search.proofs.first.has_table.Goals as goal

pub returns : goal.returns
returns c =
    let schema = schema_in c.args.parts.now in
    let places = c.args.parts.now.cells.now.places in
    let parts = c.requires.parts in (
      λ yes_. (let joined = c.is_joined.ensures.0 yes_ in
          let told = told_joined schema parts.sound places parts.cells.places c.args.assoc joined.0 (c.link_place.ensures ∙ ap Some joined.1) in
          (told.0, record { fragment = told.1; assoc = told.2; joined = told.3; of_assoc = told.4 })),
      λ rows. (let its = rows.1 in
          let told = joined_told schema parts.sound places parts.cells.places rows.0 its.fragment its.assoc its.joined in
          let here : At places c.args.assoc.index (place.Joined told.0) = subst (λ (a : AssocId). At places a.index (place.Joined told.0)) its.of_assoc told.1 in
          c.is_joined.ensures.1 (told.0, at_once places c.args.assoc.index c.link_place.result (place.Joined told.0) c.link_place.ensures here)),
    )
