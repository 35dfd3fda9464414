-- What is known where no place was found, and which place is first in the array of a key.
use Rattle.std.proofs.Common.{◌≢◌, ⊎_elim, inr, List, Option, Some, None, refl}
use Rattle.serde_json.specs.Data.{Data}
use Rattle.json_form.specs.TreeParts.{items_in}
use Rattle.groupings.specs.least_fault.Least.{Among, IsLeast}
use Rattle.groupings.proofs.least_fault.Leasts.{least_same}
use Rattle.round_trip.specs.Words.{EntityModel, TypeId, key_props}
use Rattle.data_documents.specs.declared.shape_faults.place.ShapeStep.{ShapeStep}
use Rattle.data_documents.specs.shape_faults.Places.{place_cmp}
use Rattle.data_documents.specs.entity_documents.Shapes.{IsKeyArray, IsKeyFault, IsPartFault}

-- there is none
pub none_found : (P : List ShapeStep → Type 0) (found : Option (List ShapeStep)) → ((place : List ShapeStep) → found ≢ Some place) → IsLeast place_cmp P found
    → (place : List ShapeStep) → ¬ P place
none_found P None not is = is
none_found P (Some place) not is = absurd (not place refl)

-- in an array of just as many items as a key has parts, that alone is wrong which is so of its items
pub in_key : (model : EntityModel) (ty : TypeId) (d : Data) (found : Option (List ShapeStep)) → IsKeyArray model ty d
    → IsLeast place_cmp (Among (IsPartFault model (items_in d)) (key_props model ty)) found → IsLeast place_cmp (IsKeyFault model ty d) found
in_key model ty d found array is = least_same place_cmp (Among (IsPartFault model (items_in d)) (key_props model ty)) (IsKeyFault model ty d) found
    (λ place. inr) (λ place. ⊎_elim (λ other. absurd (other.0 array)) (λ inside. inside)) is
