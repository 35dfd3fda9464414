-- The cases of all sets, by their regions.
use Rattle.std.proofs.Common.{◌≡◌, ◌≤◌, ℕ, List, All, Contains, Bool, map, take, length, ap, sym, subst, ◌∙◌}
use Rattle.std.proofs.lemmas.List.{length-map, take_all}
use Rattle.emc_base.proofs.Lists.{all_from_members}
use Rattle.emc_base.proofs.facts.Images.{map_at}
use Rattle.round_trip.specs.Words.{At, ColId, SetId, TableId}
use Rattle.regions.specs.Basis.{Basis}
use Rattle.regions.specs.declared.region.Region.{Region}
use Rattle.case_laws.specs.region_cases.Cases.{case_of}
use Rattle.case_laws.specs.declared.region_cases.case.Case.{Case}
use Rattle.region_partition.specs.set_regions.Regions.{AreRegions}
use Rattle.query_views.specs.Views.{AreCases, IsCaseOf}

module _ (basis : Basis) (is_free : TableId → ColId → Bool) where
  by_regions : (regions : List (List Region)) → AreRegions basis regions → AreCases basis is_free (map (map (case_of is_free basis)) regions)
  by_regions regions are = record {
    count = length-map regions (map (case_of is_free basis)) ∙ are.count;
    each = λ s of_set here.
        (let found = map_at (map (case_of is_free basis)) regions s.index of_set here in
        sym found.2 ∙ ap (map (case_of is_free basis)) (are.each s found.0 found.1));
  }

  -- a loop over the regions of all sets has made the cases of each
  pub all_cases : (regions items : List (List Region)) (i : ℕ) (cases : List (List Case)) → AreRegions basis regions → items ≡ regions → length items ≤ i
      → cases ≡ map (map (case_of is_free basis)) (take i items) → AreCases basis is_free cases
  all_cases regions items i cases are same end is =
      subst (AreCases basis is_free) (sym (is ∙ ap (map (map (case_of is_free basis))) (take_all i items end ∙ same))) (by_regions regions are)

  -- each case in the list of a set is one of the set
  pub set_cases : (cases : List (List Case)) (i : ℕ) (of_set list : List Case) → AreCases basis is_free cases → At cases i of_set → list ≡ of_set
      → All (IsCaseOf basis is_free) list
  set_cases cases i of_set list are here same =
      let s : SetId = record { index = i } in
      subst (All (IsCaseOf basis is_free)) (sym same)
      (all_from_members (IsCaseOf basis is_free) of_set (λ case has. (s, subst (λ (found : List Case). Contains found case) (are.each s of_set here) has)))
