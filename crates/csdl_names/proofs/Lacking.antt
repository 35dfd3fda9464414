-- When a type lacks a property: by its base, at a root, and never deeper than there are types.
use Rattle.std.proofs.Common.{◌≡◌, ◌≢◌, ⊎_elim, ◌↔◌, ℕ, suc, ◌<◌, ◌≤◌, List, [], ◌∷◌, ◌++◌, length, Contains, Option, Some, None, sym, ap, subst, ◌∙◌}
use Rattle.std.specs.Option.{option_and_then, option_map_or}
use Rattle.std.proofs.lemmas.List.Elements.{Contains-push_cases}
use Rattle.std.proofs.lemmas.Option.{none-some, same_Some, slice_get_within}
use Rattle.emc_base.specs.Lists.{At}
use Rattle.emc_base.proofs.Lists.{at_once}
use Rattle.graphs.specs.base_chains.Chains.{chain_upto}
use Rattle.emc_base.proofs.Members.{contains_nil}
use Rattle.csdl_names.specs.declared.csdl_lists.raw.RawModel.{RawModel}
use Rattle.csdl_names.specs.declared.csdl_lists.raw.RawType.{RawType}
use Rattle.csdl_names.specs.csdl_lists.References.{Names, base_of}
use Rattle.csdl_names.specs.Unresolved.{Declares, LacksProp, derived, root}
use Rattle.graphs.proofs.base_chains.Depths.{HasDepth, depth_root, depth_up, few_deep}

module _ (names : Names) (model : RawModel) where
  -- the base of a type that is there
  base_is : (i : ℕ) (type : RawType) → At model.types i type → base_of names model i ≡ option_and_then names.type_named type.base
  base_is i type here = ap (option_and_then (λ (other : RawType). option_and_then names.type_named other.base)) here

  no_base : (i : ℕ) (type : RawType) → At model.types i type → type.base ≡ None → base_of names model i ≡ None
  no_base i type here none = base_is i type here ∙ ap (option_and_then names.type_named) none

  module _ (name : List ℕ) where
    -- the place where the property is lacking has a depth, and what stands above it are types
    depth_of : (i : ℕ) → LacksProp names model name i
        → (n : ℕ) × HasDepth (base_of names model) n i × ((x : ℕ) → Contains (chain_upto (base_of names model) n i) x → x < length model.types)
    depth_of i (root _ type here none not) = (
      1,
      depth_root (base_of names model) i is,
      λ x has. ⊎_elim
          (λ (no : Contains [] x). absurd (contains_nil x no))
          (λ (same : i ≡ x). subst (λ y. y < length model.types) same (slice_get_within model.types i type here))
          (Contains-push_cases [] i x (let P : List ℕ → Type 0 = λ xs. Contains xs x in subst P (ap (λ (o : Option ℕ). option_map_or (λ (j : ℕ). []) o [] ++ i ∷ []) is) has)),
    )
      where
        is : base_of names model i ≡ None
        is = no_base i type here none
    depth_of i (derived _ base type here is not lacks) =
        let up = depth_of base lacks in (
          suc up.0,
          depth_up (base_of names model) up.0 i base is up.1,
          λ x has. ⊎_elim
              (λ (above : Contains (chain_upto (base_of names model) up.0 base) x). up.2 x above)
              (λ (same : i ≡ x). subst (λ y. y < length model.types) same (slice_get_within model.types i type here))
              (Contains-push_cases (chain_upto (base_of names model) up.0 base) i x
              (let P : List ℕ → Type 0 = λ xs. Contains xs x in subst P (ap (λ (o : Option ℕ). option_map_or (λ j. chain_upto (base_of names model) up.0 j) o [] ++ i ∷ []) is) has)),
        )

    -- a type that lacks the property stands no deeper than there are types
    pub lack_few : (i : ℕ) → LacksProp names model name i → (n : ℕ) × HasDepth (base_of names model) n i × (n ≤ length model.types)
    lack_few i lacks =
        let deep = depth_of i lacks in
        (deep.0, deep.1, few_deep (base_of names model) (length model.types) deep.0 i deep.1 deep.2)

    -- it lacks what its base lacks
    pub lack_up : (i j : ℕ) (type : RawType) → At model.types i type → base_of names model i ≡ Some j → ¬ Declares type name
        → (LacksProp names model name i ↔ LacksProp names model name j)
    lack_up i j type here is not = (to, λ lacks. derived i j type here is not lacks)
      where
        to : LacksProp names model name i → LacksProp names model name j
        to (root _ other at none free) = absurd (none-some j (sym (no_base i other at none) ∙ is))
        to (derived _ base other at next free lacks) = subst (LacksProp names model name) (same_Some base j (sym next ∙ is)) lacks

    -- it lacks nothing where it isn't there, where it declares the property, and where its base type isn't found
    pub lack_here : (i : ℕ) → LacksProp names model name i → (type : RawType) × At model.types i type × (¬ Declares type name)
    lack_here i (root _ type here none not) = (type, here, not)
    lack_here i (derived _ base type here is not lacks) = (type, here, not)

    pub not_declared : (i : ℕ) (type : RawType) → At model.types i type → Declares type name → ¬ LacksProp names model name i
    not_declared i type here declares lacks =
        let found = lack_here i lacks in
        found.2 (subst (λ (other : RawType). Declares other name) (at_once model.types i type found.0 here found.1) declares)

    pub not_found : (i : ℕ) (type : RawType) → At model.types i type → type.base ≢ None → base_of names model i ≡ None → ¬ LacksProp names model name i
    not_found i type here some none (root _ other at free not) =
        some (subst (λ (found : RawType). found.base ≡ None) (at_once model.types i other type at here) free)
    not_found i type here some none (derived _ base other at is not lacks) = none-some base (sym none ∙ is)
