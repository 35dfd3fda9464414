-- The first change that is tried by which two symbols differ.
use Rattle.std.proofs.Common.{◌≡◌, ℕ, List, map, take, find, unwrap_or, Option, true, false, sym, ap, ◌∙◌}
use Rattle.std.specs.List.{list_any}
use Rattle.emc_base.specs.Lists.{At}
use Rattle.regions.specs.declared.region.Region.{Region}
use Rattle.regions.specs.declared.pattern.Symbol.{Symbol}
use Rattle.regions.specs.Basis.{Basis}
use Rattle.region_states.specs.defaults.Defaults.{default_valuation}
use Rattle.conflict_laws.specs.clash.ClashValues.{clash_values, differ_under, values_tried}
use Rattle.witness_state.specs.declared.region_values.changes.Change.{Change}
use Rattle.witness_state.specs.region_values.Changes.{by_change}
use Rattle.witness_state.proofs.region_values.Passed.{first_passes, none_passes}

module _ (basis : Basis) (region : Region) (one two : Symbol) (tried : List (Option Change)) (are : map (by_change basis region) tried ≡ values_tried basis region one two) where
  found_is : unwrap_or (find (differ_under one two) (map (by_change basis region) tried)) (default_valuation basis 0 region) ≡ clash_values basis region one two
  found_is = ap (λ values. unwrap_or (find (differ_under one two) values) (default_valuation basis 0 region)) are

  -- it is this one
  pub first_differs : (i : ℕ) (change : Option Change) → At tried i change
      → list_any (λ change. differ_under one two (by_change basis region change)) (take i tried) ≡ false
      → differ_under one two (by_change basis region change) ≡ true → by_change basis region change ≡ clash_values basis region one two
  first_differs i change here none differs =
      sym (ap (λ found. unwrap_or found (default_valuation basis 0 region)) (first_passes (by_change basis region) (differ_under one two) tried i change here none differs))
      ∙ found_is

  -- there is none
  pub none_differs : list_any (λ change. differ_under one two (by_change basis region change)) tried ≡ false → default_valuation basis 0 region ≡ clash_values basis region one two
  none_differs none =
      sym (ap (λ found. unwrap_or found (default_valuation basis 0 region)) (none_passes (by_change basis region) (differ_under one two) tried none)) ∙ found_is
