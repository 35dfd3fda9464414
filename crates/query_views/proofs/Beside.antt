-- The value beside a property, by the place where the property stands first.
use Rattle.std.proofs.Common.{◌≡◌, ◌==◌, ◌∙◌, ℕ, List, Option, Some, None, position, slice_get, unwrap_or, option_and_then, sym, ap}
use Rattle.round_trip.specs.Words.{Null, PropId, Value, value_beside}
use Rattle.update_views.proofs.view_rows.Values.{beside_place}

module _ (p : PropId) (props : List PropId) (values : List Value) where
  pub value_there : (place : ℕ) → position (λ other. other.index == p.index) props ≡ Some place → unwrap_or (slice_get values place) Null ≡ value_beside p props values
  value_there place is = sym (beside_place p props values ∙ ap (λ (found : Option ℕ). unwrap_or (option_and_then (slice_get values) found) Null) is)

  pub none_there : position (λ other. other.index == p.index) props ≡ None → Null ≡ value_beside p props values
  none_there is = sym (beside_place p props values ∙ ap (λ (found : Option ℕ). unwrap_or (option_and_then (slice_get values) found) Null) is)
