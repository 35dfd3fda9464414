use Rattle.std.proofs.Common.{◌<◌, length, Option, option_map, refl, sym, ap, subst, ◌∙◌}
use Rattle.std.specs.Option.{IfSome}
use Rattle.std.proofs.lemmas.Option.{slice_get_read}
use Rattle.csdl_names.specs.declared.lookups.PropPlace.{PropPlace}
use Rattle.csdl_meaning.specs.ModelMeaning.{prop_id}
use Rattle.csdl_meaning.specs.csdl_making.Making.{id_of_place}
use Rattle.csdl_meaning.proofs.csdl_making.Numbered.{found_inside}
use Rattle.emc_base.proofs.Turns.{found_more}
use Rattle.csdl_meaning.proofs.csdl_making.associations.ids_of_type.Goals as goal

pub found_id-requires-clause-inside : goal.found_id-requires-clause-inside
found_id-requires-clause-inside c =
    let raw = c.args.lookups.now.model.now in
    let P : Option PropPlace → Type 0 = λ found. IfSome found (λ place. place.owner < length raw.types) in
    subst P (sym c.prop_of_type-found.ensures) (found_inside raw c.args.place c.name-item.result)

pub loop-name-preserved : goal.loop-name-preserved
loop-name-preserved c =
    let raw = c.args.lookups.now.model.now in
    c.in_ok-put_found.ensures
    ∙ found_more (prop_id raw c.args.place) c.as_slice-name-items.result.now c.loop-name.name-index c.name-item.result c.loop-name.ids c.in_ok-found_id.field-0 c.loop-name.invariant
    (slice_get_read _ _ c.loop-name.name-index _ refl c.loop-name-test.true c.name-item.is)
    (c.in_ok-found_id.ensures ∙ ap (option_map (id_of_place raw)) c.prop_of_type-found.ensures)
