-- The two other values of a property that is declared.
use Rattle.std.proofs.Common.{◌≡◌, slice_get, Some, ap, ◌∙◌}
use Rattle.std.specs.Option.{option_map_or}
use Rattle.round_trip.specs.Words.{PropId, Value, Prop}
use Rattle.regions.specs.declared.region.Region.{Region}
use Rattle.regions.specs.Basis.{Basis}
use Rattle.regions.specs.Patterns.{Valuation}
use Rattle.region_states.specs.defaults.Defaults.{alone, changed, default_valuation, one_value, other_value}
use Rattle.conflict_laws.specs.same.SameValues.{with_one, with_other}

module _ (basis : Basis) (region : Region) (p : PropId) (declared : Prop) (here : Some declared ≡ slice_get basis.schema.model.props p.index) (value : Value) where
  abbrev with_value : Value → Valuation
  with_value v = changed (default_valuation basis 0 region) (alone p v)

  -- the one
  pub is_one : value ≡ one_value basis p declared → changed (default_valuation basis 0 region) (alone p value) ≡ with_one basis region p
  is_one same = ap with_value same ∙ ap (λ found. option_map_or (λ one. with_value (one_value basis p one)) found (default_valuation basis 0 region)) here

  -- the other
  pub is_other : value ≡ other_value basis p declared → changed (default_valuation basis 0 region) (alone p value) ≡ with_other basis region p
  is_other same = ap with_value same ∙ ap (λ found. option_map_or (λ one. with_value (other_value basis p one)) found (default_valuation basis 0 region)) here
