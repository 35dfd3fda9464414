use Rattle.std.proofs.Common.{◌≡◌, slice_get, Option, Some, sum_by, ap, sym, ◌∙◌}
use Rattle.std.specs.Option.{option_copied, option_map_or}
use Rattle.round_trip.specs.Words.{EntitySet}
use Rattle.regions.specs.Regions.{types_of}
use Rattle.regions.specs.region_laws.Counting.{count_by}
use Rattle.regions.proofs.region_laws.listing.Counted.{regions_capped}
use Rattle.region_states.specs.region_basis.BasisOf.{basis_of}
use Rattle.region_partition.specs.region_lists.Counts.{capped}
use Rattle.region_partition.proofs.region_lists.counting.count.Goals as goal

pub returns-in-Some : goal.returns-in-Some
returns-in-Some c =
    let basis = basis_of c.args.parts.now in
    let s = c.args.set in
    let entry : EntitySet = c.in-Some.entry.now in
    let here : slice_get c.args.parts.now.model.now.sets s.index ≡ Some entry = sym c.get.ensures.item ∙ ap option_copied c.in-Some.is in
    c.count_of_set.ensures
    ∙ ap (λ (found : Option EntitySet). capped (option_map_or (λ set. sum_by (count_by basis s) (types_of basis set)) found 0)) (sym here)
    ∙ sym (regions_capped basis s)
