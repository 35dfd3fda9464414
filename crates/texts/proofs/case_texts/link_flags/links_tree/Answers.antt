use Rattle.std.proofs.Common.{List, flat_map, map, take, unwrap_or, refl, sym, subst, ap, ◌∙◌}
use Rattle.std.specs.List.{enumerate_from}
use Rattle.std.proofs.lemmas.Option.{slice_get_read}
use Rattle.emc_base.specs.Lists.{At}
use Rattle.round_trip.specs.Words.{Assoc, AssocId}
use Rattle.serde_json.specs.Data.{no_members, object}
use Rattle.json_form.specs.Trees.{put_all}
use Rattle.table_owners.specs.declared.places.LinkPlace.TheVariants as place
use Rattle.region_states.specs.region_basis.BasisOf.{basis_of, host_at, host_by}
use Rattle.symbolic_rows.proofs.Behind.{all_numbered}
use Rattle.texts.specs.case_texts.CaseTree.{link_member}
use Rattle.texts.proofs.case_texts.Turns.{put_more}
use Rattle.texts.proofs.case_texts.link_flags.links_tree.Goals as goal

pub loop-index-preserved : goal.loop-index-preserved
loop-index-preserved c =
    let parts = c.args.parts.now in
    let region = c.args.region.now in
    let assocs = parts.model.now.assocs in
    let i = c.loop-index.index in
    let a : AssocId = record { index = i } in
    let assoc : Assoc = c.assoc-item.result in
    let here : At assocs i assoc = subst (λ (list : List Assoc). At list i assoc) c.as_slice-assoc-items.ensures.items
    (slice_get_read _ _ i _ refl c.loop-index-test.true c.assoc-item.is) in
    let f = link_member (basis_of parts) region.linked in
    let hosts = host_at parts.cells.now.places region.set in
    let told = ap (λ one. host_by region.set a assoc (unwrap_or one place.Unmapped)) c.link_place-place.ensures in
    let passed = put_all no_members (map f (flat_map hosts (take i (enumerate_from 0 assocs)))) in
    c.in_ok-put_flag.ensures
    ∙ ap (λ members. put_all members (map f (host_by region.set a assoc c.link_place-place.result))) c.loop-index.invariant
    ∙ ap (λ here. put_all passed (map f here)) (sym told)
    ∙ sym (put_more hosts assocs i assoc here no_members f)

pub returns : goal.returns
returns c =
    let parts = c.args.parts.now in
    let region = c.args.region.now in
    c.object_tree.ensures
    ∙ ap object (c.loop-index.invariant
    ∙ ap (λ entries. put_all no_members (map (link_member (basis_of parts) region.linked) (flat_map (host_at parts.cells.now.places region.set) entries)))
    (all_numbered parts.model.now.assocs c.as_slice-assoc-items.result.now c.loop-index.index c.as_slice-assoc-items.ensures.items c.loop-index-test.false))
