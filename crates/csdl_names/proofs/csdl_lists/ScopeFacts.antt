-- What is known of names, from the texts and places that are known.
use Rattle.std.proofs.Common.{◌≡◌, ℕ, ◌++◌, ◌∷◌, [], List, Option, Some, None, string_bytes, refl, ap, ◌∙◌}
use Rattle.std.specs.Option.{option_map, option_and_then, option_or}
use Rattle.groupings.specs.name_places.GivenNames.{first_place}
use Rattle.groupings.specs.name_places.PlacesIn.{place_in}
use Rattle.csdl_names.specs.declared.csdl_lists.raw.RawModel.{RawModel}
use Rattle.csdl_names.specs.declared.csdl_lists.scope.Scope.{Scope}
use Rattle.csdl_names.specs.csdl_lists.References.{local_name}
use Rattle.groupings.specs.name_places.Fronts.{rest_after, rest_of}
use Rattle.csdl_names.specs.csdl_lists.Scopes.{IsScopeOf, local_in}

-- what follows the alias, with its dot put before
rest_of_alias : (text : List ℕ) (alias : Option (List ℕ))
    → option_and_then (λ front. rest_after front text) (option_map (λ name. name ++ 46 ∷ []) alias) ≡ option_and_then (λ name. rest_of name text) alias
rest_of_alias text None = refl
rest_of_alias text (Some alias) = refl

module _ (model : RawModel) (scope : Scope) where
  pub scope_is : string_bytes scope.namespace ≡ model.namespace ++ 46 ∷ []
      → option_map string_bytes scope.alias ≡ option_map (λ name. name ++ 46 ∷ []) model.alias
      → place_in scope.types ≡ first_place (λ type. type.name) model.types
      → place_in scope.enums ≡ first_place (λ enum. enum.name) model.enums
      → place_in scope.associations ≡ first_place (λ association. association.name) model.associations
      → place_in scope.sets ≡ first_place (λ set. set.name) model.container.sets
      → IsScopeOf model scope
  scope_is namespace alias types enums associations sets = record {
    names = λ i. record {
      type_named = λ text. option_and_then (types i) (local text i);
      enum_named = λ text. option_and_then (enums i) (local text i);
      association_named = λ text. option_and_then (associations i) (local text i);
      set_named = sets i;
    };
    types = types;
    enums = enums;
    associations = associations;
    sets = sets;
  }
    where
      local : (text : List ℕ) → local_in scope text ≡ local_name model text
      local text =
          (λ i. option_or (rest_after (namespace i) text) (option_and_then (λ front. rest_after front text) (alias i)))
          ∙ ap (option_or (rest_of model.namespace text)) (rest_of_alias text model.alias)
