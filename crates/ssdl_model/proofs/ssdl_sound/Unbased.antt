-- No type has a base type: so it has what it declares itself, and its key is its own.
use Rattle.std.proofs.Common.{◌≡◌, ℕ, zero, suc, ◌<◌, List, [], ◌∷◌, ◌++◌, length, get_or, slice_get, Option, Some, None, refl, ap, ◌∙◌, arith}
use Rattle.std.specs.Option.{option_and_then, option_map_or, option_or, unwrap_or}
use Rattle.std.proofs.lemmas.List.Elements.{All-contains}
use Rattle.emc_base.specs.Lists.{At}
use Rattle.emc_base.proofs.Mapped.{contains_at}
use Rattle.emc_base.proofs.facts.Found.{or_none}
use Rattle.graphs.specs.base_chains.Chains.{chain_upto, root}
use Rattle.csdl_names.specs.declared.csdl_lists.raw.RawModel.{RawModel}
use Rattle.csdl_names.specs.declared.csdl_lists.raw.RawType.{RawType}
use Rattle.csdl_names.specs.csdl_lists.References.{names_in}
use Rattle.csdl_names.specs.PropPlaces.{own_prop, prop_of_type, prop_upto}
use Rattle.csdl_associations.specs.csdl_constraints.Sides.{key_names}
use Rattle.csdl_meaning.specs.Meaning.{base_in}
use Rattle.ssdl_model.specs.ssdl_lists.RawStore.{IsUnbased}
use Rattle.ssdl_model.specs.ssdl_making.StoreMeaning.{key_of_type}

module _ (raw : RawModel) (unbased : IsUnbased raw) where
  -- no type names a base type
  pub no_base : (i : ℕ) (type : RawType) → At raw.types i type → type.base ≡ None
  no_base i type here = All-contains (λ type. type.base ≡ None) raw.types type unbased (contains_at raw.types i type here)

  -- so none has one
  pub base_none : (i : ℕ) → base_in raw i ≡ None
  base_none i = by (slice_get raw.types i) refl
    where
      by : (found : Option RawType) → slice_get raw.types i ≡ found → option_and_then (λ type. option_and_then (names_in raw).type_named type.base) (slice_get raw.types i) ≡ None
      by None is = ap (option_and_then (λ (type : RawType). option_and_then (names_in raw).type_named type.base)) is
      by (Some type) is = ap (option_and_then (λ (type : RawType). option_and_then (names_in raw).type_named type.base)) is ∙ ap (option_and_then (names_in raw).type_named) (no_base i type is)

  -- what a type has of a name is what it declares
  pub has_own : (i : ℕ) (name : List ℕ) → i < length raw.types → prop_of_type (names_in raw) raw i name ≡ own_prop (names_in raw) raw i name
  has_own i name inside = upto (length raw.types) inside
    where
      upto : (n : ℕ) → i < n → prop_upto (names_in raw) raw n i name ≡ own_prop (names_in raw) raw i name
      upto zero inside = absurd (omega arith)
      upto (suc n) inside =
          ap (λ (base : Option ℕ). option_or (own_prop (names_in raw) raw i name) (option_and_then (λ base. prop_upto (names_in raw) raw n base name) base)) (base_none i)
          ∙ or_none (own_prop (names_in raw) raw i name)

  -- each type stands at the top itself
  pub top_is : (i : ℕ) → i < length raw.types → root (base_in raw) (length raw.types) i ≡ i
  top_is i inside = upto (length raw.types) inside
    where
      upto : (n : ℕ) → i < n → get_or (chain_upto (base_in raw) n i) 0 i ≡ i
      upto zero inside = absurd (omega arith)
      upto (suc n) inside = ap (λ (base : Option ℕ). get_or (option_map_or (λ j. chain_upto (base_in raw) n j) base [] ++ i ∷ []) 0 i) (base_none i)

  -- so its key is the one that it gives
  pub key_is_own : (i : ℕ) → i < length raw.types → key_names (names_in raw) raw i ≡ key_of_type raw i
  key_is_own i inside = ap (λ (top : ℕ). unwrap_or (option_and_then (λ type. type.key) (slice_get raw.types top)) []) (top_is i inside)
