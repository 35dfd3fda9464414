use Rattle.std.proofs.Common.{◌≡◌, map, sym, ap, subst, ◌∙◌}
use Rattle.std.proofs.lemmas.List.{take_all}
use Rattle.round_trip.specs.Between.{schema_of}
use Rattle.table_owners.specs.Owners.{TellOwners}
use Rattle.table_owners.specs.Sources.{owner_by}
use Rattle.table_owners.proofs.ownership.Owning.{tell_owners}
use Rattle.table_owners.proofs.owners.owners_of.Goals as goal

pub returns : goal.returns
returns c = λ sound.
    let model = c.args.model.now in
    let mapping = c.args.mapping.now in
    let schema = schema_of model c.args.store.now mapping in
    let whole : c.loop-source.owners ≡ map (owner_by model mapping) c.in_ok-sources.sources.items =
    c.loop-source.invariant
    ∙ ap (map (owner_by model mapping)) (take_all c.loop-source.source-index c.as_slice-source-items.result.now c.loop-source-test.false ∙ c.as_slice-source-items.ensures.value) in
    subst (TellOwners schema) (sym whole) (tell_owners schema sound c.in_ok-sources.sources.items (c.in_ok-sources.ensures.sources model))
