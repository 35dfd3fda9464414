use Rattle.std.proofs.Common.{map, refl, ap, ◌∙◌}
use Rattle.std.proofs.lemmas.List.{take_all}
use Rattle.std.proofs.lemmas.Option.{slice_get_read}
use Rattle.case_laws.specs.candidates.Rows.{shown_rows}
use Rattle.emc_base.proofs.Turns.{mapped_more}
use Rattle.query_cases.specs.case_reading.Sources.{read_entity}
use Rattle.query_views.specs.Lent.{lent_entity}
use Rattle.query_views.proofs.state_of.copied_set.Goals as goal

pub loop-one-preserved : goal.loop-one-preserved
loop-one-preserved c =
    let i = c.loop-one.one-index in
    let one = c.one-item.result in
    c.in_ok-push.ensures.ok
    ∙ mapped_more lent_entity c.args.lent.now i one c.loop-one.entities c.in_ok-entity.field-0 c.loop-one.invariant
    (slice_get_read _ _ i _ refl c.loop-one-test.true c.one-item.is)
    (c.in_ok-entity.ensures ∙ ap (λ rows. read_entity one.met.reading.now one.met.case.now.region.ty (shown_rows rows)) c.as_slice.ensures.value)

pub returns : goal.returns
returns c = c.loop-one.invariant ∙ ap (map lent_entity) (take_all c.loop-one.one-index c.args.lent.now c.loop-one-test.false)
