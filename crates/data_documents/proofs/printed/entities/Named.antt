-- The type of an entity is found by its full name.
use Rattle.std.proofs.Common.{◌≡◌, ◌==◌, ℕ, List, [], ◌∷◌, ◌++◌, length, map, drop, cond, true, ◌&&◌, Option, Some, None, refl, sym, ap, ◌∙◌, append_assoc, take_at, drop_at, eq-eqb}
use Rattle.std.specs.Option.{option_and_then, option_map_or, option_or}
use lib.Pointwise.{pointwise}
use Rattle.emc_base.specs.Lists.{AreApart, At}
use Rattle.groupings.specs.name_places.Fronts.{rest_after, rest_of}
use Rattle.groupings.specs.name_places.GivenNames.{first_place}
use Rattle.round_trip.specs.Words.{EntityModel, EntityType, TypeId}
use Rattle.entity_state.specs.StateTree.{full_name}
use Rattle.schema_names.specs.SchemaNames.{local_name, type_named}
use Rattle.data_documents.proofs.printed.Lists.{own_first}

alike : (xs : List ℕ) → pointwise (λ one other. one == other) xs xs ≡ true
alike [] = refl
alike (x ∷ xs) = ap (λ b. b && pointwise (λ one other. one == other) xs xs) (eq-eqb x x refl) ∙ alike xs

-- what follows a front is found
rest_found : (front rest : List ℕ) → rest_after front (front ++ rest) ≡ Some rest
rest_found front rest =
    let found : Option (List ℕ) = Some (drop (length front) (front ++ rest)) in
    ap (λ taken. cond (pointwise (λ one other. one == other) front taken) found None) (take_at front rest (length front) refl)
    ∙ ap (λ b. cond b found None) (alike front) ∙ ap Some (drop_at front rest (length front) refl)

module _ (model : EntityModel) (apart : AreApart (map (λ type. type.name) model.types)) (ty : TypeId) (type : EntityType) (here : At model.types ty.index type) where
  local_is : local_name model (full_name model ty) ≡ Some type.name
  local_is =
      let name : full_name model ty ≡ (model.namespace ++ 46 ∷ []) ++ type.name =
      ap (λ found. model.namespace ++ 46 ∷ option_map_or (λ (t : EntityType). t.name) found []) here ∙ sym (append_assoc model.namespace (46 ∷ []) type.name) in
      let found : rest_of model.namespace (full_name model ty) ≡ Some type.name = ap (rest_of model.namespace) name ∙ rest_found (model.namespace ++ 46 ∷ []) type.name in
      ap (λ (first : Option (List ℕ)). option_or first (option_and_then (λ alias. rest_of alias (full_name model ty)) model.alias)) found

  pub own_type : type_named model (full_name model ty) ≡ Some ty.index
  own_type = ap (option_and_then (first_place (λ (t : EntityType). t.name) model.types)) local_is ∙ own_first (λ (t : EntityType). t.name) model.types ty.index type apart here
