use Rattle.std.proofs.Common.{◌++◌, ◌≤◌, ℕ, List, filter, flat_map, length, refl, sym, ap, subst, ◌∙◌}
use Rattle.std.specs.List.{enumerate_from}
use Rattle.std.proofs.lemmas.Option.{slice_get_read}
use Rattle.emc_base.specs.Lists.{At}
use Rattle.emc_base.proofs.Loops.{take-enumerated}
use Rattle.emc_base.proofs.facts.Images.{one_more_gives}
use Rattle.round_trip.specs.Words.{Assoc}
use Rattle.regions.specs.Basis.{Host}
use Rattle.regions.specs.Symbols.{is_linked}
use Rattle.region_states.specs.region_basis.BasisOf.{basis_of, host_at}
use Rattle.forced_entities.specs.Listed.{partner_by}
use Rattle.forced_entities.specs.declared.member.Forced.{Forced}
use Rattle.forced_entities.proofs.Gathering.{gathers_twice}
use Rattle.forced_entities.proofs.stepping.partners.Goals as goal

pub loop-index-preserved : goal.loop-index-preserved
loop-index-preserved c =
    let parts = c.args.parts.now in
    let basis = basis_of parts in
    let region = c.args.region.now in
    let i = c.loop-index.index in
    let so_far : List Forced = c.loop-index.list in
    let assoc : Assoc = c.assoc-item.result in
    let linked = λ (host : Host). is_linked basis region.linked host.assoc in
    let f : ℕ × Assoc → List Forced = λ entry. flat_map (partner_by basis) (filter linked (host_at parts.cells.now.places region.set entry)) in
    let here : At parts.model.now.assocs i assoc = subst (λ (list : List Assoc). At list i assoc) c.as_slice-assoc-items.ensures.items
    (slice_get_read _ _ i _ refl c.loop-index-test.true c.assoc-item.is) in
    c.in_ok-put_found.ensures ∙ ap (λ (more : List Forced). so_far ++ more) c.in_ok-partner.ensures ∙ ap (λ (list : List Forced). list ++ f (i, assoc)) c.loop-index.invariant
    ∙ sym (one_more_gives f parts.model.now.assocs i assoc here)

pub returns : goal.returns
returns c =
    let parts = c.args.parts.now in
    let basis = basis_of parts in
    let region = c.args.region.now in
    let assocs = parts.model.now.assocs in
    let linked = λ (host : Host). is_linked basis region.linked host.assoc in
    let of_entry = host_at parts.cells.now.places region.set in
    let P : List Assoc → Type 0 = λ items. length items ≤ c.loop-index.index in
    let past : length assocs ≤ c.loop-index.index = subst P c.as_slice-assoc-items.ensures.items c.loop-index-test.false in
    c.loop-index.invariant ∙ ap (flat_map (λ entry. flat_map (partner_by basis) (filter linked (of_entry entry)))) (take-enumerated assocs c.loop-index.index past)
    ∙ gathers_twice (partner_by basis) linked of_entry (enumerate_from 0 assocs)
