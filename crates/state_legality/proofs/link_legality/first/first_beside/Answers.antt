use Rattle.std.proofs.Common.{List, Option, ◌+◌, refl, subst, sym}
use Rattle.std.proofs.lemmas.Option.{slice_get_read}
use Rattle.emc_base.specs.Lists.{At}
use Rattle.groupings.specs.least_fault.Least.{Among, IsLeast}
use Rattle.groupings.proofs.least_fault.Leasts.{AmongFirst, least_all, least_more, least_start}
use Rattle.entity_state.specs.breach_order.Founds.{found_cmp}
use Rattle.entity_state.specs.breach_order.FoundOrder.{found_cmp_total}
use Rattle.entity_state.specs.declared.breach_order.found.Found.{Found}
use Rattle.round_trip.specs.Words.{Assoc}
use Rattle.state_legality.specs.link_legality.Tells.{state_of}
use Rattle.state_legality.proofs.link_legality.Flat.{AssocBreaks, least_links}
use Rattle.state_legality.proofs.link_legality.first.first_beside.Goals as goal

pub loop-i-init : goal.loop-i-init
loop-i-init c = least_start found_cmp found_cmp_total (AssocBreaks c.args.model.now (state_of c.args.entities.now c.args.links.now)) c.as_slice-assocs.result.now

pub first_at_assoc-requires-clause-known : goal.first_at_assoc-requires-clause-known
first_at_assoc-requires-clause-known c =
    let i = c.loop-i.i in
    let P : List Assoc → Type 0 = λ assocs. At assocs i c.index-assocs-i.result in
    subst P c.as_slice-assocs.ensures.items (slice_get_read _ _ i _ refl c.loop-i-test.true c.index-assocs-i.is)

pub loop-i-preserved : goal.loop-i-preserved
loop-i-preserved c =
    let i = c.loop-i.i in
    let Breaks = AssocBreaks c.args.model.now (state_of c.args.entities.now c.args.links.now) in
    let P : Option Found → Type 0 = λ found. IsLeast found_cmp (AmongFirst Breaks c.as_slice-assocs.result.now (i + 1)) found in
    subst P (sym c.earlier-found.ensures)
    (least_more found_cmp found_cmp_total Breaks c.as_slice-assocs.result.now i _ _ _
    (slice_get_read _ _ i _ refl c.loop-i-test.true c.index-assocs-i.is) c.loop-i.invariant c.in_ok-next.ensures)

pub returns : goal.returns
returns c =
    let model = c.args.model.now in
    let state = state_of c.args.entities.now c.args.links.now in
    let P : List Assoc → Type 0 = λ assocs. IsLeast found_cmp (Among (AssocBreaks model state) assocs) c.loop-i.found in
    least_links model state c.loop-i.found (subst P c.as_slice-assocs.ensures.items
    (least_all found_cmp found_cmp_total (AssocBreaks model state) c.as_slice-assocs.result.now c.loop-i.i _ c.loop-i-test.false c.loop-i.invariant))
