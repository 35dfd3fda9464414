use Rattle.std.proofs.Common.{List, map, refl, ap, ◌∙◌}
use Rattle.std.proofs.lemmas.List.{take_all}
use Rattle.std.proofs.lemmas.Option.{slice_get_read}
use Rattle.std.specs.Global.{Vec}
use Rattle.emc_base.proofs.Turns.{mapped_more}
use Rattle.round_trip.specs.Words.{Entity}
use Rattle.query_views.specs.Lent.{lent_entity, shown_links}
use Rattle.query_views.specs.declared.lending.LentEntity.{LentEntity}
use Rattle.query_views.proofs.loaded.Loaded.copied.Goals as goal

pub loop-of_set-preserved : goal.loop-of_set-preserved
loop-of_set-preserved c =
    let i = c.loop-of_set.of_set-index in
    c.in_ok-push.ensures.items
    ∙ mapped_more (λ (of_set : Vec LentEntity). map lent_entity of_set.items) c.as_slice-of_set-items.result.now i c.of_set-item.result c.loop-of_set.lists.items c.in_ok-copied_set.field-0
    c.loop-of_set.invariant (slice_get_read _ _ i _ refl c.loop-of_set-test.true c.of_set-item.is)
    (c.in_ok-copied_set.ensures ∙ ap (map lent_entity) c.as_slice.ensures.value)

pub returns : goal.returns
returns c =
    let copied : Vec LentEntity → List Entity = λ of_set. map lent_entity of_set.items in
    let passed = take_all c.loop-of_set.of_set-index c.as_slice-of_set-items.result.now c.loop-of_set-test.false ∙ c.as_slice-of_set-items.ensures.value in
    c.of_lists.ensures ∙ (λ k. record { entities = (c.loop-of_set.invariant ∙ ap (map copied) passed) k; links = (c.in_ok-copied_links.ensures ∙ ap (map shown_links) c.as_slice-2.ensures.value) k })
