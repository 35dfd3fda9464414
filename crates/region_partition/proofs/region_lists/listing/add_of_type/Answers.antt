use Rattle.std.proofs.Common.{◌≡◌, ◌++◌, List, map, filter, ap, subst, ◌∙◌, IfOk}
use Rattle.round_trip.specs.Words.{PropId}
use Rattle.round_trip.specs.soundness.mappings.Joined.{prop}
use Rattle.regions.specs.declared.region.Region.{Region}
use Rattle.regions.specs.Lists.{choices}
use Rattle.regions.specs.Regions.{atoms_at}
use Rattle.region_states.specs.region_basis.BasisOf.{basis_of}
use Rattle.region_partition.proofs.region_lists.OfTypes.{regions_by_choices}
use Rattle.region_partition.proofs.region_lists.listing.add_of_type.Goals as goal

pub returns : goal.returns
returns c =
    let basis = basis_of c.args.parts.now in
    let by_atoms = c.in_ok-chosen.ensures ∙ ap (λ (props : List PropId). choices (map (atoms_at basis) (filter (λ p. basis.tested (prop p)) props))) c.props_of.ensures in
    let P : List Region → Type 0 = λ regions. IfOk c.add_chosen.result (λ _. c.add_chosen.new.regions ≡ c.args.regions.now ++ regions) in
    subst P (regions_by_choices basis c.args.set c.args.ty c.in_ok-chosen.chosen c.in_ok-linked.linked by_atoms c.in_ok-linked.ensures) c.add_chosen.ensures
