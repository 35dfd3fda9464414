-- Base types by their places.
use Rattle.std.proofs.Common.{◌≡◌, ℕ, List, length, map, slice_get, Option, Some, None, refl, sym, ap, subst₂, ◌∙◌}
use Rattle.std.specs.Option.{option_and_then, option_map}
use Rattle.std.proofs.lemmas.Option.{option_and_then_some, slice_get-map}
use Rattle.emc_base.specs.Lists.{At}
use Rattle.graphs.specs.base_chains.Chains.{StaysWithin, base_at}
use Rattle.csdl_names.specs.declared.csdl_lists.raw.RawModel.{RawModel}
use Rattle.csdl_names.specs.declared.csdl_lists.raw.RawType.{RawType}
use Rattle.csdl_names.specs.csdl_lists.References.{Names, base_of, names_in}
use Rattle.csdl_names.proofs.csdl_lists.Within.{type_within}

-- the bases of types, one by one
pub bases_are : (names : Names) (model : RawModel) (bases : List (Option ℕ)) → bases ≡ map (λ type. option_and_then names.type_named type.base) model.types
    → base_at bases ≡ base_of names model
bases_are names model bases is = λ k i. at i k
  where
    base : RawType → Option ℕ
    base type = option_and_then names.type_named type.base

    inner : (found : Option RawType) → option_and_then (λ (known : Option ℕ). known) (option_map base found) ≡ option_and_then base found
    inner None = refl
    inner (Some type) = refl

    at : (i : ℕ) → base_at bases i ≡ base_of names model i
    at i = ap (λ known. base_at known i) is ∙ ap (option_and_then (λ (known : Option ℕ). known)) (slice_get-map base model.types i) ∙ inner (slice_get model.types i)

-- each is a place in the list of types
pub base_within : (model : RawModel) → StaysWithin (base_of (names_in model) model) (length model.types)
base_within model i j is =
    option_and_then_some (λ type. option_and_then (names_in model).type_named type.base) (slice_get model.types i) j is
    (λ type here base. option_and_then_some (names_in model).type_named type.base j base (λ text has named. type_within model text j named))

-- the same of bases that are known
pub bases_within : (model : RawModel) (bases : List (Option ℕ)) → base_at bases ≡ base_of (names_in model) model → length bases ≡ length model.types
    → StaysWithin (base_at bases) (length bases)
bases_within model bases based alike = let P : (ℕ → Option ℕ) → ℕ → Type 0 = StaysWithin in subst₂ P (sym based) (sym alike) (base_within model)

-- what has a base is a type
pub is_type : (model : RawModel) (i j : ℕ) → base_of (names_in model) model i ≡ Some j → (type : RawType) × At model.types i type
is_type model i j is = option_and_then_some (λ type. option_and_then (names_in model).type_named type.base) (slice_get model.types i) j is (λ type here _. (type, here))
