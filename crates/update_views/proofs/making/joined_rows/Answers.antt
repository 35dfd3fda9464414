use Rattle.std.proofs.Common.{◌≤◌, ◌++◌, ◌∷◌, [], List, length, map, Some, sym, ap, subst, ◌∙◌}
use Rattle.std.proofs.lemmas.Option.{slice_get-get_or}
use Rattle.emc_base.specs.Lists.{At}
use Rattle.emc_base.proofs.Loops.{take-enumerated}
use Rattle.emc_base.proofs.Numbered.{numbered_at}
use Rattle.std.specs.List.{enumerate_from}
use Rattle.round_trip.specs.Words.{Assoc}
use Rattle.region_states.specs.region_basis.BasisOf.{basis_of}
use Rattle.update_views.specs.Making.{joined_by}
use Rattle.update_views.proofs.Added.{next_image}
use Rattle.update_views.proofs.making.joined_rows.Goals as goal

pub loop-index-preserved : goal.loop-index-preserved
loop-index-preserved c =
    let i = c.loop-index.index in
    let parts = c.args.parts.now in
    let assocs = parts.model.now.assocs in
    let assoc : Assoc = c.assoc-item.result in
    let items = c.as_slice-assoc-items.result.now in
    let stands : At items i assoc = slice_get-get_or items i assoc c.loop-index-test.true ∙ ap Some (sym c.assoc-item.is) in
    let here : At assocs i assoc = subst (λ (list : List Assoc). At list i assoc) c.as_slice-assoc-items.ensures.items stands in
    c.in_ok-push.ensures.ok
    ∙ (λ k. c.loop-index.invariant k ++ c.in_ok-joined_row.ensures k ∷ [])
    ∙ next_image (joined_by (basis_of parts) parts.cells.now.places) (enumerate_from 0 assocs) i (i, assoc) (numbered_at assocs i assoc here)

pub returns : goal.returns
returns c =
    let parts = c.args.parts.now in
    let assocs = parts.model.now.assocs in
    let past : length assocs ≤ c.loop-index.index = subst (λ (items : List Assoc). length items ≤ c.loop-index.index) c.as_slice-assoc-items.ensures.items c.loop-index-test.false in
    c.loop-index.invariant ∙ ap (map (joined_by (basis_of parts) parts.cells.now.places)) (take-enumerated assocs c.loop-index.index past)

pub joined_row-requires-clause-here : goal.joined_row-requires-clause-here
joined_row-requires-clause-here c =
    let i = c.loop-index.index in
    let assoc : Assoc = c.assoc-item.result in
    let items = c.as_slice-assoc-items.result.now in
    let stands : At items i assoc = slice_get-get_or items i assoc c.loop-index-test.true ∙ ap Some (sym c.assoc-item.is) in
    subst (λ (list : List Assoc). At list i assoc) c.as_slice-assoc-items.ensures.items stands
