-- A scope is that of a model: what it knows of names is what they stand for there.
use Rattle.std.specs.Prelude.{◌≡◌, ℕ, List, Option, option_map, string_bytes}
use Rattle.std.specs.Option.{option_and_then, option_or}
use Rattle.groupings.specs.name_places.GivenNames.{first_place}
use Rattle.groupings.specs.name_places.PlacesIn.{place_in}
use Rattle.csdl_names.specs.declared.csdl_lists.raw.RawModel.{RawModel}
use Rattle.csdl_names.specs.declared.csdl_lists.scope.Scope.{Scope}
use Rattle.csdl_names.specs.csdl_lists.References.{Names, names_in}
use Rattle.groupings.specs.name_places.Fronts.{rest_after}

-- the name that a reference gives, by the Namespace and the Alias that are known
abbrev pub local_in : Scope → List ℕ → Option (List ℕ)
local_in scope text = option_or (rest_after (string_bytes scope.namespace) text) (option_and_then (λ alias. rest_after alias text) (option_map string_bytes scope.alias))

-- what is known of names
abbrev pub names_of : Scope → Names
names_of scope = record {
  type_named = λ text. option_and_then (place_in scope.types) (local_in scope text);
  enum_named = λ text. option_and_then (place_in scope.enums) (local_in scope text);
  association_named = λ text. option_and_then (place_in scope.associations) (local_in scope text);
  set_named = place_in scope.sets;
}

-- what is known is what names stand for in the model, and where each name is given first
pub record IsScopeOf (model : RawModel) (scope : Scope) : Type 0 where
  pub names : names_of scope ≡ names_in model
  pub types : place_in scope.types ≡ first_place (λ type. type.name) model.types
  pub enums : place_in scope.enums ≡ first_place (λ enum. enum.name) model.enums
  pub associations : place_in scope.associations ≡ first_place (λ association. association.name) model.associations
  pub sets : place_in scope.sets ≡ first_place (λ set. set.name) model.container.sets
