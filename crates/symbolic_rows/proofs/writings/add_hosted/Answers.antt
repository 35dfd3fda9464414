use Rattle.std.proofs.Common.{◌++◌, List, append-nil, flat_map, map, refl, subst, sym, ap, ◌∙◌}
use Rattle.std.proofs.lemmas.Option.{slice_get_read}
use Rattle.emc_base.specs.Lists.{At}
use Rattle.round_trip.specs.Words.{Assoc}
use Rattle.region_states.specs.region_basis.BasisOf.{basis_of}
use Rattle.symbolic_rows.specs.Written.{in_symbols, writings_by}
use Rattle.symbolic_rows.proofs.Behind.{all_numbered, one_more}
use Rattle.symbolic_rows.proofs.writings.add_hosted.Goals as goal

pub loop-index-init : goal.loop-index-init
loop-index-init c = sym (append-nil (map in_symbols c.args.writings.now.items))

pub loop-index-preserved : goal.loop-index-preserved
loop-index-preserved c =
    let parts = c.args.parts.now in
    let i = c.loop-index.index in
    let assoc : Assoc = c.assoc-item.result in
    let here : At parts.model.now.assocs i assoc = subst (λ (list : List Assoc). At list i assoc) c.as_slice-assoc-items.ensures.items
    (slice_get_read _ _ i _ refl c.loop-index-test.true c.assoc-item.is) in
    one_more (writings_by (basis_of parts) parts.cells.now.places c.args.region.now) parts.model.now.assocs i assoc here
    (map in_symbols c.args.writings.now.items) (map in_symbols c.loop-index.writings.items) (map in_symbols c.add_hosted_by.new.writings.items)
    c.loop-index.invariant c.in_ok-add_hosted_by.ensures

pub returns : goal.returns
returns c =
    let parts = c.args.parts.now in
    c.loop-index.invariant
    ∙ ap (λ entries. map in_symbols c.args.writings.now.items ++ flat_map (writings_by (basis_of parts) parts.cells.now.places c.args.region.now) entries)
    (all_numbered parts.model.now.assocs c.as_slice-assoc-items.result.now c.loop-index.index c.as_slice-assoc-items.ensures.items c.loop-index-test.false)
