use Rattle.std.proofs.Common.{refl, ap, ◌∙◌}
use Rattle.std.proofs.lemmas.List.{take_all}
use Rattle.std.proofs.lemmas.List.Elements.{All-contains}
use Rattle.std.proofs.lemmas.Option.{slice_get_read}
use Rattle.emc_base.proofs.Mapped.{contains_at}
use Rattle.emc_base.proofs.Turns.{flat_more}
use Rattle.query_views.specs.LinkKeys.{HaveLinkCells, hosted_keys, keys_hosted_by, shown_keys}
use Rattle.query_views.proofs.links.hosted.hosted_keys.Goals as goal

pub add_keys-requires : goal.add_keys-requires
add_keys-requires c =
    let i = c.loop-entity.entity-index in
    All-contains HaveLinkCells c.args.entities.now c.entity-item.result c.requires
    (contains_at c.args.entities.now i c.entity-item.result (slice_get_read _ _ i _ refl c.loop-entity-test.true c.entity-item.is))

pub loop-entity-preserved : goal.loop-entity-preserved
loop-entity-preserved c =
    let i = c.loop-entity.entity-index in
    c.in_ok-add_keys.ensures
    ∙ flat_more (keys_hosted_by c.args.assoc c.args.first_hosts) c.args.entities.now i c.entity-item.result (shown_keys c.loop-entity.keyed.items) c.loop-entity.invariant
    (slice_get_read _ _ i _ refl c.loop-entity-test.true c.entity-item.is)

pub returns : goal.returns
returns c =
    c.loop-entity.invariant ∙ ap (hosted_keys c.args.assoc c.args.first_hosts) (take_all c.loop-entity.entity-index c.args.entities.now c.loop-entity-test.false)
