use Rattle.std.proofs.Common.{[], ◌∷◌, List, get_or, map, filter, take, ap, sym, ◌∙◌}
use Rattle.std.proofs.lemmas.Option.{slice_get-get_or}
use Rattle.emc_base.specs.Lists.{At}
use Rattle.emc_base.proofs.Numbered.{filter_kept, filter_left}
use Rattle.round_trip.specs.Words.{PropId}
use Rattle.round_trip.specs.soundness.mappings.Joined.{prop}
use Rattle.condition_logic.specs.declared.atoms.AtomOf.{AtomOf}
use Rattle.regions.specs.Lists.{choices}
use Rattle.regions.specs.Regions.{atoms_at}
use Rattle.region_states.specs.region_basis.BasisOf.{basis_of}
use Rattle.region_partition.specs.region_lists.Listing.{beside}
use Rattle.region_partition.proofs.region_lists.Further.{choices_more}
use Rattle.region_partition.proofs.region_lists.choices.atom_choices.Goals as goal
use Rattle.region_partition.proofs.region_lists.choices.atom_choices.Goals.{then-is_tested+in_ok-atoms+in_ok-chosen-2, else-is_tested}

pub loop-property-preserved : goal.loop-property-preserved
loop-property-preserved c =
    let basis = basis_of c.args.parts.now in
    let tested = λ (one : PropId). basis.tested (prop one) in
    let items = c.args.properties.now in
    let i = c.loop-property.property-index in
    let p : PropId = get_or items i (record { index = 0 }) in
    let here : At items i p = slice_get-get_or items i (record { index = 0 }) c.loop-property-test.true in
    let chosen = λ (props : List PropId). choices (map (atoms_at basis) props) in
    elim c.if-is_tested.branch [
      | then-is_tested+in_ok-atoms+in_ok-chosen-2 w ↦
          w.chosen-is
          ∙ choices_more (atoms_at basis) (filter tested (take i items)) p c.loop-property.chosen w.in_ok-chosen-2.chosen c.loop-property.invariant
          (w.in_ok-chosen-2.ensures ∙ ap (λ (atoms : List AtomOf). beside c.loop-property.chosen (map (λ atom. atom ∷ []) atoms)) w.in_ok-atoms.ensures)
          ∙ ap chosen (sym (filter_kept tested items i p here (sym c.is_tested.ensures ∙ w.if-is_tested.true)))
      | else-is_tested w ↦
          w.chosen-is ∙ c.loop-property.invariant ∙ ap chosen (sym (filter_left tested items i p here (sym c.is_tested.ensures ∙ w.if-is_tested.false)))
    ]
