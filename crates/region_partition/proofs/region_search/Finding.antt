-- Which of the regions of a set may hold an entity with its links.
use Rattle.std.proofs.Common.{◌≡◌, ◌≢◌, ℕ, List, Contains, sym, subst}
use Rattle.std.specs.declared.cmp.Ordering.TheVariants.{Equal}
use Rattle.emc_base.specs.Lists.{At}
use Rattle.emc_base.proofs.Mapped.{contains_at}
use Rattle.round_trip.specs.Words.{SetId, Entity, Hosted}
use Rattle.regions.specs.declared.region.Region.{Region}
use Rattle.regions.specs.Basis.{Basis}
use Rattle.regions.specs.Regions.{Holds, regions_of}
use Rattle.regions.specs.region_laws.IsBasis.{IsBasis}
use Rattle.region_partition.specs.region_search.Standing.{Rises, region_cmp}
use Rattle.region_partition.proofs.region_search.RegionOrder.{holds_equal, regions_rise}
use Rattle.region_partition.proofs.region_search.Searched.{one_equal}

module _ (basis : Basis) (is : IsBasis basis) (s : SetId) (entity : Entity) (links : List Hosted) (regions : List Region) (are : regions ≡ regions_of basis s) where
  they_rise : Rises (region_cmp basis entity links) regions
  they_rise = subst (λ list. Rises (region_cmp basis entity links) list) (sym are) (regions_rise basis is entity links s)

  stands_equal : (region : Region) → Contains regions region → Holds basis region entity links → region_cmp basis entity links region ≡ Equal
  stands_equal region has = holds_equal basis is entity links s region (subst (λ (list : List Region). Contains list region) are has)

  -- where none stands equal, none holds it
  pub none_equal : (Rises (region_cmp basis entity links) regions → (region : Region) → Contains regions region → region_cmp basis entity links region ≢ Equal)
      → (region : Region) → Contains regions region → ¬ Holds basis region entity links
  none_equal none region has holds = none they_rise region has (stands_equal region has holds)

  -- where one that stands equal doesn't hold it, none does
  pub none_other : (place : ℕ) (one : Region) → At regions place one → region_cmp basis entity links one ≡ Equal → ¬ Holds basis one entity links
      → (region : Region) → Contains regions region → ¬ Holds basis region entity links
  none_other place one at equal none region has holds =
      let same = one_equal (region_cmp basis entity links) regions they_rise region one has (contains_at regions place one at) (stands_equal region has holds) equal in
      none (subst (λ (other : Region). Holds basis other entity links) same holds)
