use Rattle.std.proofs.Common.{◌++◌, List, refl, ap, ◌∙◌}
use Rattle.std.proofs.lemmas.Option.{slice_get_read}
use Rattle.region_states.specs.region_basis.BasisOf.{basis_of}
use Rattle.forced_entities.specs.Forced.{part_in}
use Rattle.forced_entities.specs.Listed.{asked_by, is_arrow}
use Rattle.forced_entities.specs.declared.member.Forced.{Forced}
use Rattle.forced_entities.proofs.Gathering.{gathers}
use Rattle.forced_entities.proofs.stepping.steps.Goals as goal

pub loop-assoc-preserved : goal.loop-assoc-preserved
loop-assoc-preserved c =
    let basis = basis_of c.args.parts.now in
    let from = c.args.from.now in
    let f = asked_by basis (is_arrow basis) from.set from.ty (part_in basis from) in
    let so_far : List Forced = c.loop-assoc.list in
    c.in_ok-put_found.ensures ∙ ap (λ (more : List Forced). so_far ++ more) c.in_ok-led_by.ensures ∙ ap (λ (list : List Forced). list ++ f c.assoc-item.result) c.loop-assoc.invariant
    ∙ gathers f c.as_slice-assoc-items.result.now c.loop-assoc.assoc-index c.assoc-item.result (slice_get_read _ _ c.loop-assoc.assoc-index _ refl c.loop-assoc-test.true c.assoc-item.is)
