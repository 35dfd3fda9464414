use Rattle.std.proofs.Common.{◌*◌, List, map, filter, length, ap, ◌∙◌}
use Rattle.round_trip.specs.Words.{PropId, props_of}
use Rattle.round_trip.specs.soundness.mappings.Joined.{prop}
use Rattle.regions.specs.Regions.{atoms_at, flags_at}
use Rattle.regions.specs.region_laws.Counting.{product_of}
use Rattle.region_states.specs.region_basis.BasisOf.{basis_of}
use Rattle.region_partition.specs.region_lists.Counts.{capped}
use Rattle.region_partition.proofs.region_lists.Counts.{capped_product}
use Rattle.region_partition.proofs.region_lists.counting.count_of_type.Goals as goal

pub returns : goal.returns
returns c =
    let basis = basis_of c.args.parts.now in
    let atoms = λ (props : List PropId). product_of (map (λ p. length (atoms_at basis p)) (filter (λ p. basis.tested (prop p)) props)) in
    let flags = product_of (map (λ host. length (flags_at basis c.args.ty host)) (basis.hosts c.args.set)) in
    let one = c.count_atom_choices-atoms.ensures ∙ ap (λ (props : List PropId). capped (atoms props)) c.props_of.ensures in
    let two = c.count_flag_choices-flags.ensures in
    c.capped.ensures ∙ (λ i. capped (one i * two i)) ∙ capped_product (atoms (props_of c.args.parts.now.model.now c.args.ty)) flags
