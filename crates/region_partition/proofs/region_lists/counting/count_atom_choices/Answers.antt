use Rattle.std.proofs.Common.{List, get_or, length, map, filter, take, ap, sym, ◌∙◌}
use Rattle.std.proofs.lemmas.Option.{slice_get-get_or}
use Rattle.emc_base.specs.Lists.{At}
use Rattle.emc_base.proofs.Numbered.{filter_kept, filter_left}
use Rattle.round_trip.specs.Words.{PropId}
use Rattle.round_trip.specs.soundness.mappings.Joined.{prop}
use Rattle.regions.specs.Regions.{atoms_at}
use Rattle.regions.specs.region_laws.Counting.{product_of}
use Rattle.region_states.specs.region_basis.BasisOf.{basis_of}
use Rattle.region_partition.specs.region_lists.Counts.{capped}
use Rattle.region_partition.proofs.region_lists.Products.{more_factor}
use Rattle.region_partition.proofs.region_lists.counting.count_atom_choices.Goals as goal
use Rattle.region_partition.proofs.region_lists.counting.count_atom_choices.Goals.{then-is_tested, else-is_tested}

pub loop-property-preserved : goal.loop-property-preserved
loop-property-preserved c =
    let basis = basis_of c.args.parts.now in
    let tested = λ (one : PropId). basis.tested (prop one) in
    let count = λ (one : PropId). length (atoms_at basis one) in
    let items = c.args.properties.now in
    let i = c.loop-property.property-index in
    let p : PropId = get_or items i (record { index = 0 }) in
    let here : At items i p = slice_get-get_or items i (record { index = 0 }) c.loop-property-test.true in
    elim c.if-is_tested.branch [
      | then-is_tested w ↦
          w.product-is
          ∙ w.capped-product.ensures
          ∙ more_factor count (filter tested (take i items)) p c.loop-property.product w.count_atoms.result c.loop-property.invariant w.count_atoms.ensures.count
          ∙ ap (λ (props : List PropId). capped (product_of (map count props))) (sym (filter_kept tested items i p here (sym c.is_tested.ensures ∙ w.if-is_tested.true)))
      | else-is_tested w ↦
          w.product-is
          ∙ c.loop-property.invariant
          ∙ ap (λ (props : List PropId). capped (product_of (map count props))) (sym (filter_left tested items i p here (sym c.is_tested.ensures ∙ w.if-is_tested.false)))
    ]
