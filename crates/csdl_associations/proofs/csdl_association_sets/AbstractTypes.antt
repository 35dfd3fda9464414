-- The types that aren't abstract, and those above them, by marks.
use Rattle.std.proofs.Common.{◌≡◌, ⊎_elim, ℕ, ◌<◌, List, length, map, not, slice_get, Bool, true, Option, Some, None, refl, sym, ap, subst, ◌∙◌, arith}
use Rattle.std.specs.Option.{option_map}
use Rattle.std.proofs.lemmas.Bool.{not-true}
use Rattle.std.proofs.lemmas.Option.{none-some, same_Some, slice_get-map, slice_get_within}
use Rattle.emc_base.specs.Lists.{At}
use Rattle.graphs.specs.base_chains.Chains.{IsAncestor, IsUpFrom, base_at}
use Rattle.graphs.specs.base_chains.MarksBelow.{TellsMarksBelow}
use Rattle.graphs.proofs.base_chains.Chains.{closed_ancestors}
use Rattle.csdl_names.specs.declared.csdl_lists.raw.RawModel.{RawModel}
use Rattle.csdl_names.specs.declared.csdl_lists.raw.RawType.{RawType}
use Rattle.csdl_names.specs.csdl_lists.References.{base_of, names_in}
use Rattle.csdl_names.proofs.csdl_lists.BaseTypes.{base_within}
use Rattle.csdl_associations.specs.csdl_association_sets.Concrete.{HasConcrete, IsConcrete}
use Rattle.csdl_associations.specs.csdl_association_sets.Told.{TellsConcrete}

module _ (model : RawModel) (marks : List Bool) (marked : marks ≡ map (λ type. not type.is_abstract) model.types) where
  -- a mark tells that the type at its place isn't abstract
  is_concrete : (j : ℕ) → At marks j true → IsConcrete (names_in model) model j
  is_concrete j is = by (slice_get model.types j) refl (sym (slice_get-map (λ type. not type.is_abstract) model.types j) ∙ sym (ap (λ (xs : List Bool). slice_get xs j) marked) ∙ is)
    where
      by : (found : Option RawType) → slice_get model.types j ≡ found → option_map (λ type. not type.is_abstract) found ≡ Some true → IsConcrete (names_in model) model j
      by None here none = absurd (none-some true none)
      by (Some type) here some = (type, here, not-true type.is_abstract (same_Some (not type.is_abstract) true some))

  -- and back
  has_mark : (j : ℕ) → IsConcrete (names_in model) model j → At marks j true
  has_mark j concrete =
      ap (λ (xs : List Bool). slice_get xs j) marked
      ∙ slice_get-map (λ type. not type.is_abstract) model.types j
      ∙ ap (option_map (λ (type : RawType). not type.is_abstract)) concrete.1
      ∙ ap (λ (b : Bool). Some (not b)) concrete.2

  -- the types that are marked or have a marked one below them
  pub told_concrete : (bases : List (Option ℕ)) (told : List Bool) → base_at bases ≡ base_of (names_in model) model → length bases ≡ length model.types
      → TellsMarksBelow (base_at bases) (length bases) marks told → TellsConcrete model told
  told_concrete bases told based alike tells = λ i. (to i, back i)
    where
      Base : ℕ → Option ℕ
      Base = base_of (names_in model) model

      to : (i : ℕ) → At told i true → HasConcrete (names_in model) model i
      to i is =
          let here : i < length told = slice_get_within told i true is in
          let size : length told ≡ length bases = tells.size in
          let below = (tells.each i (let w : i < length bases = omega (arith, here, size) in w)).0 is in
          let Up : (ℕ → Option ℕ) → Type 0 = λ b. IsUpFrom b below.0 i in
          (below.0, is_concrete below.0 below.1, subst Up based below.2)

      back : (i : ℕ) → HasConcrete (names_in model) model i → At told i true
      back i has =
          let Up : (ℕ → Option ℕ) → Type 0 = λ b. IsUpFrom b has.0 i in
          let type = has.1 in
          let up : IsUpFrom Base has.0 i = has.2 in
          let within : i < length model.types = ⊎_elim
          (λ (same : has.0 ≡ i). subst (λ (j : ℕ). j < length model.types) same (slice_get_within model.types has.0 type.0 type.1))
          (λ (above : IsAncestor Base has.0 i). closed_ancestors Base (λ j. j < length model.types) (λ j k _ next. base_within model j k next) has.0 i (base_within model has.0) above)
          up in
          (tells.each i (let w : i < length bases = omega (arith, within, alike) in w)).1 (has.0, has_mark has.0 type, subst Up (sym based) up)
