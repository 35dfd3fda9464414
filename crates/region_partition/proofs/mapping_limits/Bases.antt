-- Where limits are kept, sound parts with cells that are theirs are as other calls ask.
use Rattle.std.proofs.Common.{◌≡◌, ◌≤◌, [], ◌++◌, flat_map, length}
use Rattle.std.specs.List.{enumerate_from}
use Rattle.emc_base.proofs.Lists.{all_from_members, item_at}
use Rattle.emc_base.proofs.Mapped.{contains_enumerated}
use Rattle.round_trip.specs.Words.{EntityModel, EntityType}
use Rattle.edm_types.specs.declared.faults.LimitKind.TheVariants as limit
use Rattle.round_trip.specs.soundness.mappings.Joined.{prop}
use Rattle.round_trip.specs.soundness.mappings.Mappings.{IsSoundSchema}
use Rattle.cells.specs.declared.parts.Parts.{Parts}
use Rattle.cells.specs.Cells.{TellsCells}
use Rattle.cells.specs.Limits.{HasSmallGroups, IsSmallModel, most_assocs, most_constants, most_props}
use Rattle.cells.specs.Parts.{AreParts, schema_in}
use Rattle.cells.proofs.Few.{few_by_list}
use Rattle.regions.specs.Basis.{Basis}
use Rattle.regions.specs.Regions.{count_of}
use Rattle.region_states.specs.region_basis.BasisOf.{basis_of}
use Rattle.region_states.proofs.region_basis.Groups.{constants_told}
use Rattle.region_partition.specs.mapping_limits.Checked.{of_model, of_type}
use Rattle.region_partition.specs.mapping_limits.FirstLimit.{HaveFewRegions, constants_passed, most_regions, most_sets, most_types, passed, regions_passed}
use Rattle.region_partition.proofs.mapping_limits.Firsts.{none_before, none_behind, none_each}
use Rattle.region_partition.proofs.mapping_limits.Kept.{kept}

-- a model that passes no limit by itself has few association sets, and few properties in each type
small_model : (model : EntityModel) → of_model model ≡ [] → IsSmallModel model
small_model model none =
    let sets = passed limit.Sets [] (length model.sets) most_sets in
    let assocs = passed limit.Associations [] (length model.assocs) most_assocs in
    let types = passed limit.Types [] (length model.types) most_types in
    let props = flat_map of_type model.types in
    let before_props = none_before (sets ++ assocs ++ types) props none in (
      kept limit.Associations [] (length model.assocs) most_assocs (none_behind sets assocs (none_before (sets ++ assocs) types before_props)),
      all_from_members (λ (type : EntityType). length type.props ≤ most_props) model.types
          (λ type has. kept limit.Properties type.name (length type.props) most_props
          (none_each of_type model.types type has (none_behind (sets ++ assocs ++ types) props none))),
    )

-- a set has few regions where no limit on them is passed
pub few_regions : (basis : Basis) → flat_map (regions_passed basis) (enumerate_from 0 basis.schema.model.sets) ≡ [] → HaveFewRegions basis
few_regions basis none s set here = kept limit.Regions set.name (count_of basis s) most_regions
    (none_each (regions_passed basis) (enumerate_from 0 basis.schema.model.sets) (s.index, set) (contains_enumerated basis.schema.model.sets s.index set here) none)

module _ (parts : Parts) (sound : IsSoundSchema (schema_in parts)) (cells : TellsCells (schema_in parts) parts.cells.now) where
  -- where no property's group passes the limit, each has few constants
  small_groups : flat_map (constants_passed (basis_of parts)) (enumerate_from 0 parts.model.now.props) ≡ [] → HasSmallGroups (schema_in parts)
  small_groups none p within =
      let props = parts.model.now.props in
      let declared = item_at props p.index within in
      let listed = constants_told (schema_in parts) parts.cells.now.groups cells.groups (prop p) within in
      let list = (basis_of parts).constants (prop p) in
      few_by_list (schema_in parts) (prop p) list listed (kept limit.Constants declared.0.name (length list) most_constants
      (none_each (constants_passed (basis_of parts)) (enumerate_from 0 props) (p.index, declared.0) (contains_enumerated props p.index declared.0 declared.1) none))

  -- where neither the model nor a group passes a limit, the parts are as other calls ask
  pub are_parts : of_model parts.model.now ≡ [] → flat_map (constants_passed (basis_of parts)) (enumerate_from 0 parts.model.now.props) ≡ [] → AreParts parts
  are_parts model constants = record { sound = sound; limits = record { model = small_model parts.model.now model; groups = small_groups constants }; cells = cells }
