use Rattle.std.proofs.Common.{Bool, List, Option, ℕ, length, subst₂}
use Rattle.graphs.specs.base_chains.Chains.{base_at}
use Rattle.graphs.specs.base_chains.MarksBelow.{TellsMarksBelow}
use Rattle.csdl_associations.proofs.csdl_association_sets.AbstractTypes.{told_concrete}
use Rattle.csdl_associations.proofs.csdl_association_sets.concrete.concrete_types.Goals as goal

pub returns : goal.returns
returns c =
    let lookups = c.args.lookups.now in
    let Tells : List (Option ℕ) → List Bool → Type 0 = λ bases marks. TellsMarksBelow (base_at bases) (length bases) marks c.in_ok-told.told.items in
    told_concrete lookups.model.now c.in_ok-marks.marks.items c.in_ok-marks.ensures lookups.bases.now c.in_ok-told.told.items lookups.based lookups.counted
    (subst₂ Tells c.as_slice.ensures.items c.as_slice-2.ensures.value c.in_ok-told.ensures)
