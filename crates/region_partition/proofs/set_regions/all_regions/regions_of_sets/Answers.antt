use Rattle.std.proofs.Common.{◌≡◌, ◌≤◌, ◌<◌, ◌+◌, List, length, Err, sym, ap, subst, arith}
use Rattle.emc_base.proofs.Lists.{item_at}
use Rattle.round_trip.specs.Words.{SetId}
use Rattle.region_partition.specs.declared.region_lists.listing.RegionsFault.{RegionsFault}
use Rattle.region_partition.specs.declared.region_lists.listing.RegionsFault.TheVariants.{Limit}
use Rattle.region_partition.specs.region_lists.Outcome.{TellsLimit}
use Rattle.regions.specs.declared.region.Region.{Region}
use Rattle.regions.specs.Regions.{count_of}
use Rattle.region_states.specs.region_basis.BasisOf.{basis_of}
use Rattle.region_partition.proofs.set_regions.Sets.{AreOfFirst, AreRegionsOf, one_more}
use Rattle.region_partition.proofs.set_regions.all_regions.regions_of_sets.Goals as goal

-- no set has more regions than are allowed
pub unreachable-requires : goal.unreachable-requires
unreachable-requires c =
    let basis = basis_of c.args.parts.now in
    let sets = c.args.parts.now.model.now.sets in
    let i = c.loop-index.index in
    let s : SetId = record { index = i } in
    let items : length c.as_slice-items.result.now ≡ length sets = ap length c.as_slice-items.ensures.items in
    let turn : i < length c.as_slice-items.result.now = c.loop-index-test.true in
    let set = item_at sets i (omega (arith, items, turn)) in
    let few : count_of basis s ≤ 1024 = c.requires.few s set.0 set.1 in
    let Told : RegionsFault → Type 0 = λ fault. TellsLimit basis s 1024 (Err fault) in
    let told : Told (Limit c.in-Err-Limit.field-0-0 c.in-Err-Limit.field-0-1) = subst Told c.in-Err-Limit.field-0-is c.in-Err-Limit.ensures.limit in
    let counted : c.in-Err-Limit.field-0-0 ≡ count_of basis s = told.0 in
    let more : 1024 < c.in-Err-Limit.field-0-0 = told.2 in
    omega (arith, few, counted, more)

pub loop-index-preserved : goal.loop-index-preserved
loop-index-preserved c =
    let basis = basis_of c.args.parts.now in
    let i = c.loop-index.index in
    let First : List (List Region) → Type 0 = AreOfFirst (AreRegionsOf basis) (i + 1) in
    subst First (sym c.in_ok-push-in-Ok.ensures.ok) (one_more (AreRegionsOf basis) i c.loop-index.of_sets c.in-Ok.of_set c.loop-index.invariant c.in-Ok.ensures.ok.0)
