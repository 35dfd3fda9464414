-- Types of a document and those of the model that it means: what stands above which, and which may have entities. V14, V20.
use Rattle.std.proofs.Common.{◌≡◌, ◌⊎◌, ⊎_elim, inl, inr, ℕ, ◌<◌, Bool, true, false, length, slice_get, Option, Some, None, option_map, refl, sym, ap, subst, ◌∙◌}
use Rattle.std.proofs.lemmas.Bool.{both_ways}
use Rattle.std.proofs.lemmas.Option.{none-some, slice_get_within}
use Rattle.emc_base.specs.Lists.{At}
use Rattle.emc_base.proofs.Lists.{at_once, item_at}
use Rattle.edm_types.specs.IsA.{same, base, chain}
use Rattle.edm_types.specs.Forest.{type_numbered}
use Rattle.round_trip.specs.Words.{HasBase, IsA, IsConcrete}
use Rattle.round_trip.specs.soundness.Lookups.{HasConcrete}
use Rattle.graphs.specs.base_chains.Chains.{IsAncestor, IsUpFrom, direct, further}
use Rattle.csdl_names.specs.declared.csdl_lists.raw.RawModel.{RawModel}
use Rattle.csdl_names.specs.declared.csdl_lists.raw.RawType.{RawType}
use Rattle.csdl_names.specs.csdl_lists.References.{names_in}
use Rattle.csdl_associations.specs.csdl_association_sets.Concrete.{IsConcrete as IsRawConcrete, HasConcrete as HasRawConcrete}
use Rattle.csdl_meaning.specs.Meaning.{IsMeant, base_in, type_of}
use Rattle.csdl_meaning.specs.ModelMeaning.{meaning}
use Rattle.csdl_meaning.proofs.types.Bases.{base_inside, has_type, type_at}
use Rattle.graphs.proofs.base_chains.Settled.{up_or_not}
use Rattle.emc_base.proofs.Stable.{below, settled}

module _ (raw : RawModel) where
  -- a document means its model
  pub meant : IsMeant raw (meaning raw)
  meant = record { types = refl; props = refl }

  -- a base type of the document is one of the model
  base_is : (i j : ℕ) → base_in raw i ≡ Some j → HasBase (meaning raw) (type_numbered i) (type_numbered j)
  base_is i j is =
      let from = item_at raw.types i (has_type raw i j is) in
      (type_of raw i from.0, type_at raw (meaning raw) meant i from.0 from.1, ap (option_map type_numbered) is)

  -- what stands above a type
  above_is : (i j : ℕ) → IsAncestor (base_in raw) i j → IsA (meaning raw) (type_numbered i) (type_numbered j)
  above_is i j (direct _ _ is) = base (type_numbered i) (type_numbered j) (base_is i j is)
  above_is i j (further _ k _ is rest) = chain (type_numbered i) (type_numbered k) (type_numbered j) (base (type_numbered i) (type_numbered k) (base_is i k is)) (above_is k j rest)

  -- a type that is another or stands below it is derived from it
  pub up_is : (i j : ℕ) → IsUpFrom (base_in raw) i j → IsA (meaning raw) (type_numbered i) (type_numbered j)
  up_is i j up = ⊎_elim
      (λ (one : i ≡ j). let P : ℕ → Type 0 = λ k. IsA (meaning raw) (type_numbered i) (type_numbered k) in subst P one (same (type_numbered i)))
      (λ (above : IsAncestor (base_in raw) i j). above_is i j above)
      up

  -- a type of the document that isn't abstract
  concrete_is : (i : ℕ) → IsRawConcrete (names_in raw) raw i → IsConcrete (meaning raw) (type_numbered i)
  concrete_is i (from, here, not) = (type_of raw i from, type_at raw (meaning raw) meant i from here, not)

  -- a type isn't abstract, or it is
  concrete_or_not : (i : ℕ) → IsRawConcrete (names_in raw) raw i ⊎ (¬ IsRawConcrete (names_in raw) raw i)
  concrete_or_not i = by (slice_get raw.types i) refl
    where
      by_flag : (from : RawType) → At raw.types i from → (flag : Bool) → from.is_abstract ≡ flag → IsRawConcrete (names_in raw) raw i ⊎ (¬ IsRawConcrete (names_in raw) raw i)
      by_flag from here false is = inl (from, here, is)
      by_flag from here true is = inr (λ concrete. both_ways from.is_abstract
          (ap (λ (type : RawType). type.is_abstract) (at_once raw.types i from concrete.0 here concrete.1) ∙ concrete.2) is)

      by : (found : Option RawType) → slice_get raw.types i ≡ found → IsRawConcrete (names_in raw) raw i ⊎ (¬ IsRawConcrete (names_in raw) raw i)
      by None none = inr (λ concrete. none-some concrete.0 (sym none ∙ concrete.1))
      by (Some from) here = by_flag from here from.is_abstract refl

  module _ (never : (i : ℕ) → ¬ IsAncestor (base_in raw) i i) where
    -- V14: some type at or below a type may have entities
    pub has_concrete : (t : ℕ) → ¬ (¬ HasRawConcrete (names_in raw) raw t) → HasConcrete (meaning raw) (type_numbered t)
    has_concrete t fine = ⊎_elim
        (λ (found : (j : ℕ) × IsOne j). (type_numbered found.0, concrete_is found.0 found.1.0, up_is found.0 t found.1.1))
        (λ (none : (j : ℕ) → j < length raw.types → ¬ IsOne j). absurd (fine (λ some. none some.0 (slice_get_within raw.types some.0 some.1.0 some.1.1) (some.1, some.2))))
        (below IsOne either (length raw.types))
      where
        IsOne : ℕ → Type 0
        IsOne j = IsRawConcrete (names_in raw) raw j × IsUpFrom (base_in raw) j t

        either : (j : ℕ) → IsOne j ⊎ (¬ IsOne j)
        either j = ⊎_elim
            (λ (concrete : IsRawConcrete (names_in raw) raw j). ⊎_elim
            (λ (up : IsUpFrom (base_in raw) j t). inl (concrete, up))
            (λ (not : ¬ IsUpFrom (base_in raw) j t). inr (λ one. not one.1))
            (up_or_not (base_in raw) never (length raw.types) (base_inside raw) j t (slice_get_within raw.types j concrete.0 concrete.1)))
            (λ (not : ¬ IsRawConcrete (names_in raw) raw j). inr (λ one. not one.0))
            (concrete_or_not j)

    -- V20: a type is an element type or derived from it
    pub is_under : (i j : ℕ) → i < length raw.types → ¬ (¬ IsUpFrom (base_in raw) i j) → IsA (meaning raw) (type_numbered i) (type_numbered j)
    is_under i j inside fine = up_is i j (settled (up_or_not (base_in raw) never (length raw.types) (base_inside raw) i j inside) fine)
