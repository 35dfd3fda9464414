-- Where no property or no value is left, null stands beside a property.
use Rattle.std.proofs.Common.{◌≡◌, List, [], ◌∷◌, length, refl, arith}
use Rattle.edm_types.specs.Types.{PropId, Value, Null}
use Rattle.edm_types.specs.Entities.{value_beside}

module _ (prop : PropId) where
  pub none_beside_first : (props : List PropId) (values : List Value) → length props ≡ 0 → Null ≡ value_beside prop props values
  none_beside_first [] values none = refl
  none_beside_first (p ∷ props) values none = absurd (omega arith)

  pub none_beside_second : (props : List PropId) (values : List Value) → length values ≡ 0 → Null ≡ value_beside prop props values
  none_beside_second [] values none = refl
  none_beside_second (p ∷ props) [] none = refl
  none_beside_second (p ∷ props) (value ∷ values) none = absurd (omega arith)
