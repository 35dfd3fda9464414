-- What references and names stand for are places in the lists of a model.
use Rattle.std.proofs.Common.{◌≡◌, ℕ, ◌<◌, List, length, Option, Some}
use Rattle.std.specs.Option.{option_and_then}
use Rattle.std.proofs.lemmas.Option.{option_and_then_some, slice_get_within}
use Rattle.groupings.specs.name_places.GivenNames.{first_place}
use Rattle.groupings.proofs.name_places.FirstPlaces.{first_has}
use Rattle.csdl_names.specs.declared.csdl_lists.raw.RawModel.{RawModel}
use Rattle.csdl_names.specs.csdl_lists.References.{local_name, names_in}

module _ {X : Type 0} (name_in : X → List ℕ) (items : List X) where
  -- the first place of a name is one of the list
  first_within : (name : List ℕ) (i : ℕ) → first_place name_in items name ≡ Some i → i < length items
  first_within name i is = let found = first_has name_in items name i is in slice_get_within items i found.0 found.1

  -- and so is that of the name that a reference gives
  named_within : (name : Option (List ℕ)) (i : ℕ) → option_and_then (first_place name_in items) name ≡ Some i → i < length items
  named_within name i is = option_and_then_some (first_place name_in items) name i is (λ given here first. first_within given i first)

module _ (model : RawModel) where
  -- the entity type that a reference names is one of the model's
  pub type_within : (text : List ℕ) (i : ℕ) → (names_in model).type_named text ≡ Some i → i < length model.types
  type_within text = named_within (λ type. type.name) model.types (local_name model text)

  -- so is the association
  pub association_within : (text : List ℕ) (i : ℕ) → (names_in model).association_named text ≡ Some i → i < length model.associations
  association_within text = named_within (λ association. association.name) model.associations (local_name model text)

  -- and the entity set of a name
  pub set_within : (name : List ℕ) (i : ℕ) → (names_in model).set_named name ≡ Some i → i < length model.container.sets
  set_within = first_within (λ set. set.name) model.container.sets
