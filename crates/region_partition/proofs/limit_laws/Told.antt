-- No two limits are told of one schema.
use Rattle.std.proofs.Common.{◌≡◌, ◌+◌, List, [], ◌++◌, flat_map, length, min, slice_get, Option, sym, ap, ◌∙◌}
use Rattle.std.specs.List.{enumerate_from}
use Rattle.std.proofs.lemmas.Option.{slice_get_within}
use Rattle.emc_base.proofs.Numbered.{enumerated_at}
use Rattle.emc_base.proofs.facts.Images.{flat_map_agree}
use Rattle.edm_types.specs.declared.faults.LimitKind.TheVariants as limit
use Rattle.round_trip.specs.Words.{LimitFault, Schema}
use Rattle.cells.specs.Limits.{most_assocs, most_constants}
use Rattle.regions.specs.Basis.{Basis}
use Rattle.regions.specs.Regions.{most_counted}
use Rattle.regions.specs.region_laws.IsBasis.{IsBasis}
use Rattle.region_partition.specs.mapping_limits.FirstLimit.{IsFirstLimit, columns_passed, constants_passed, first_limit, limits_passed, most_fragments, most_keys, most_regions, most_sets, most_tables, most_types, passed, props_passed, regions_passed}
use Rattle.region_partition.proofs.limit_laws.Alike.{regions_alike}
use Rattle.region_partition.proofs.limit_laws.Answered.{beside, right_beside, same_constants}

module _ (schema : Schema) (one two : Basis) (is_one : IsBasis (beside one schema)) (is_two : IsBasis (beside two schema)) where
  -- the same limits on constants are passed
  constants_alike : flat_map (constants_passed (beside one schema)) (enumerate_from 0 schema.model.props)
      ≡ flat_map (constants_passed (beside two schema)) (enumerate_from 0 schema.model.props)
  constants_alike = flat_map_agree (constants_passed (beside one schema)) (constants_passed (beside two schema)) (enumerate_from 0 schema.model.props) (λ placed has.
      let within = slice_get_within schema.model.props placed.0 placed.1 (enumerated_at schema.model.props placed has) in
      let same = same_constants schema one two is_one is_two (record { index = placed.0 }) within in
      λ k. passed limit.Constants placed.1.name (length (same k)) most_constants)

  -- the same limits on regions
  counts_alike : regions_passed (beside one schema) ≡ regions_passed (beside two schema)
  counts_alike = λ k placed.
      passed limit.Regions placed.1.name (min (length (regions_alike schema one two is_one is_two (record { index = placed.0 }) k)) most_counted) most_regions

  -- and so the same limits
  limits_alike : limits_passed (beside one schema) ≡ limits_passed (beside two schema)
  limits_alike = λ k.
      passed limit.Sets [] (length schema.model.sets) most_sets
      ++ passed limit.Associations [] (length schema.model.assocs) most_assocs
      ++ passed limit.Types [] (length schema.model.types) most_types
      ++ flat_map (props_passed (beside one schema)) schema.model.types
      ++ passed limit.Tables [] (length schema.store.tables) most_tables
      ++ flat_map (columns_passed (beside one schema)) schema.store.tables
      ++ passed limit.Foreign [] (length schema.store.keys) most_keys
      ++ passed limit.Fragments [] (length schema.mapping.fragments + length schema.mapping.links) most_fragments
      ++ constants_alike k
      ++ flat_map (counts_alike k) (enumerate_from 0 schema.model.sets)

  -- of which the same is the first
  pub first_alike : first_limit (beside one schema) ≡ first_limit (beside two schema)
  first_alike = ap (λ (limits : List LimitFault). slice_get limits 0) limits_alike

-- what a basis tells of its own schema it tells of this one
told_beside : (schema : Schema) (told : Option LimitFault) → (first : IsFirstLimit schema told) → first_limit (beside first.basis schema) ≡ told
told_beside schema told first = sym (ap (λ (of : Schema). first_limit (beside first.basis of)) first.of_schema) ∙ first.is_first

-- no two limits are told of one schema
pub one_told : (schema : Schema) (one two : Option LimitFault) → IsFirstLimit schema one → IsFirstLimit schema two → one ≡ two
one_told schema one two first second =
    let is_one = right_beside first.basis schema first.is_basis first.of_schema in
    let is_two = right_beside second.basis schema second.is_basis second.of_schema in
    sym (told_beside schema one first) ∙ first_alike schema first.basis second.basis is_one is_two ∙ told_beside schema two second
