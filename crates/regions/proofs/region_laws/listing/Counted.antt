-- The number of regions is a sum of products.
use Rattle.std.proofs.Common.{◌≡◌, ℕ, [], flat_map, length, slice_get, min, sum_by, Option, Some, None, refl, sym, ap, ◌∙◌}
use Rattle.std.specs.Option.{option_map_or}
use Rattle.std.proofs.lemmas.List.Concat.{length-flat_map}
use Rattle.round_trip.specs.Words.{SetId, TypeId, EntitySet}
use Rattle.regions.specs.Basis.{Basis}
use Rattle.regions.specs.Regions.{count_of, model_of, most_counted, regions_by, regions_of, types_of}
use Rattle.regions.specs.region_laws.Counting.{count_by, counted}
use Rattle.regions.proofs.region_laws.listing.Choices.{type_counted}

module _ (basis : Basis) (s : SetId) where
  pub regions_counted : counted basis s ≡ length (regions_of basis s)
  regions_counted = by (slice_get (model_of basis).sets s.index)
    where
      by : (found : Option EntitySet) → option_map_or (λ set. sum_by (count_by basis s) (types_of basis set)) found 0
          ≡ length (option_map_or (λ set. flat_map (regions_by basis s) (types_of basis set)) found [])
      by None = refl
      by (Some set) =
          let each : (λ t. length (regions_by basis s t)) ≡ count_by basis s = λ k t. type_counted basis s t k in
          sym (length-flat_map (regions_by basis s) (types_of basis set) ∙ ap (λ (f : TypeId → ℕ). sum_by f (types_of basis set)) each)

  pub regions_capped : count_of basis s ≡ min (counted basis s) most_counted
  regions_capped = ap (λ n. min n most_counted) (sym regions_counted)
