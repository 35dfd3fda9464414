-- What the references and names in a CSDL document stand for: places in its lists.
-- Source: CSDL version 3, Namespace, Alias, and the names of types, associations and sets.
use Rattle.std.specs.Prelude.{ℕ, List, Option, slice_get}
use Rattle.std.specs.Option.{option_and_then, option_or}
use Rattle.groupings.specs.name_places.Fronts.{rest_of}
use Rattle.groupings.specs.name_places.GivenNames.{first_place}
use Rattle.csdl_names.specs.declared.csdl_lists.raw.RawModel.{RawModel}

-- what the names in a model stand for
pub record Names : Type 0 where
  -- the entity type that a reference names
  pub type_named : List ℕ → Option ℕ
  -- the enumeration type
  pub enum_named : List ℕ → Option ℕ
  -- the association
  pub association_named : List ℕ → Option ℕ
  -- the entity set of a name
  pub set_named : List ℕ → Option ℕ

-- the name that a reference gives: it follows the Namespace, or else the Alias, and a dot
abbrev pub local_name : RawModel → List ℕ → Option (List ℕ)
local_name model text = option_or (rest_of model.namespace text) (option_and_then (λ alias. rest_of alias text) model.alias)

-- what names stand for: the first of that name. Types, enumeration types and associations are named by references, entity sets by their names.
abbrev pub names_in : RawModel → Names
names_in model = record {
  type_named = λ text. option_and_then (first_place (λ type. type.name) model.types) (local_name model text);
  enum_named = λ text. option_and_then (first_place (λ enum. enum.name) model.enums) (local_name model text);
  association_named = λ text. option_and_then (first_place (λ association. association.name) model.associations) (local_name model text);
  set_named = first_place (λ set. set.name) model.container.sets;
}

-- the base type of the type at a place, where it is found
abbrev pub base_of : Names → RawModel → ℕ → Option ℕ
base_of names model i = option_and_then (λ type. option_and_then names.type_named type.base) (slice_get model.types i)
