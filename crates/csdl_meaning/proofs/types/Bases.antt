-- Base types: those of a model are those of the document that it is meant by. V8.
use Rattle.emc_base.proofs.FoundItems.{and_then_some}
use Rattle.std.proofs.Common.{◌≡◌, ◌⊎◌, ⊎_elim, inl, inr, ℕ, ◌<◌, List, [], ◌∷◌, ◌++◌, append-nil, length, slice_get, Option, Some, None, option_map, refl, sym, ap, subst, ◌∙◌, zero-add}
use Rattle.std.specs.List.{flat_map}
use Rattle.std.specs.Option.{option_and_then, option_map_or}
use Rattle.std.proofs.lemmas.Grind.{flat_map-append}
use Rattle.std.proofs.lemmas.List.Concat.{flat_map-cons}
use Rattle.std.proofs.lemmas.Option.{same_Some, slice_get_within}
use Rattle.emc_base.specs.Lists.{At}
use Rattle.edm_types.specs.IsA.{same, base, chain}
use Rattle.round_trip.specs.Words.{EntityModel, EntityType, TypeId, HasBase, IsA}
use Rattle.edm_types.specs.Forest.{type_numbered}
use Rattle.round_trip.specs.soundness.models.Inheritance.{HasNoCircle}
use Rattle.round_trip.specs.soundness.Lookups.{IsAncestor as IsAbove}
use Rattle.graphs.specs.base_chains.Chains.{IsAncestor, direct, further, StaysWithin}
use Rattle.graphs.proofs.base_chains.Chains.{Ends, above_above, chain_root, chain_step, ends}
use Rattle.groupings.specs.name_places.GivenNames.{first_place}
use Rattle.groupings.proofs.name_places.FirstPlaces.{first_has}
use Rattle.csdl_names.specs.declared.csdl_lists.raw.RawModel.{RawModel}
use Rattle.csdl_names.specs.declared.csdl_lists.raw.RawType.{RawType}
use Rattle.csdl_names.specs.csdl_lists.References.{local_name, names_in}
use Rattle.csdl_meaning.specs.Meaning.{IsMeant, base_in, chain_in, type_of}
use Rattle.emc_base.proofs.Joined.{at_numbered, numbered_at}

module _ (raw : RawModel) where
  -- a base type is one of the document's, and only a type of the document has one
  pub base_inside : StaysWithin (base_in raw) (length raw.types)
  base_inside i j is =
      let type = and_then_some (λ type. option_and_then (names_in raw).type_named type.base) (slice_get raw.types i) j is in
      let reference = and_then_some (names_in raw).type_named type.0.base j type.2 in
      let name = and_then_some (first_place (λ type. type.name) raw.types) (local_name raw reference.0) j reference.2 in
      let found = first_has (λ type. type.name) raw.types name.0 j name.2 in
      slice_get_within raw.types j found.0 found.1

  -- what has a base type is a type of the document
  pub has_type : (i j : ℕ) → base_in raw i ≡ Some j → i < length raw.types
  has_type i j is =
      let type = and_then_some (λ type. option_and_then (names_in raw).type_named type.base) (slice_get raw.types i) j is in
      slice_get_within raw.types i type.0 type.1

  -- what stands above a type has one more
  pub above_inside : (i j : ℕ) → IsAncestor (base_in raw) i j → i < length raw.types
  above_inside i j (direct _ _ is) = has_type i j is
  above_inside i j (further _ k _ is rest) = has_type i k is

  -- what all in a chain have: what those above have, and what the type has itself
  pub along_chain : {X : Type 0} (own : ℕ → List X) → ((i : ℕ) → ¬ IsAncestor (base_in raw) i i) → (i : ℕ) → i < length raw.types
      → flat_map own (chain_in raw i) ≡ option_map_or (λ j. flat_map own (chain_in raw j)) (base_in raw i) [] ++ own i
  along_chain {X} own no_circle i inside = by (base_in raw i) refl
    where
      end : Ends (base_in raw) (length raw.types) i
      end = ends (base_in raw) no_circle (length raw.types) base_inside i inside

      by : (o : Option ℕ) → base_in raw i ≡ o → flat_map own (chain_in raw i) ≡ option_map_or (λ j. flat_map own (chain_in raw j)) o [] ++ own i
      by None is = ap (flat_map own) (chain_root (base_in raw) (length raw.types) i end is) ∙ flat_map-cons own i [] ∙ append-nil (own i)
      by (Some j) is = ap (flat_map own) (chain_step (base_in raw) (length raw.types) i j end is) ∙ flat_map-append own (chain_in raw j) (i ∷ [])
          ∙ ap (λ xs. flat_map own (chain_in raw j) ++ xs) (flat_map-cons own i [] ∙ append-nil (own i))

  module _ (model : EntityModel) (meant : IsMeant raw model) where
    -- a type of the model is what one of the document means
    pub raw_at : (i : ℕ) (type : EntityType) → At model.types i type → (from : RawType) × At raw.types i from × (type ≡ type_of raw i from)
    raw_at i type here = numbered_at (type_of raw) 0 raw.types i i type (zero-add i) (let P : List EntityType → Type 0 = λ types. At types i type in subst P meant.types here)

    -- and each type of the document means one of the model
    pub type_at : (i : ℕ) (from : RawType) → At raw.types i from → At model.types i (type_of raw i from)
    type_at i from here = let P : List EntityType → Type 0 = λ types. At types i (type_of raw i from) in
        subst P (sym meant.types) (at_numbered (type_of raw) 0 raw.types i i from (zero-add i) here)

    -- base types of the model are those of the document
    has_base : (t u : TypeId) → HasBase model t u → base_in raw t.index ≡ Some u.index
    has_base t u has =
        let from = raw_at t.index has.0 has.1 in
        by (base_in raw t.index) (ap (λ (type : EntityType). type.base) (sym from.2) ∙ has.2)
      where
        by : (found : Option ℕ) → option_map type_numbered found ≡ Some u → found ≡ Some u.index
        by None is = absurd cc
        by (Some j) is = let one : type_numbered j ≡ u = same_Some (type_numbered j) u is in λ k. Some (one k).index

    -- a type that is derived from another is it, or has it above
    derived : (t u : TypeId) → IsA model t u → (t.index ≡ u.index) ⊎ IsAncestor (base_in raw) t.index u.index
    derived t u (same _) = inl refl
    derived t u (base _ _ has) = inr (direct t.index u.index (has_base t u has))
    derived t u (chain _ v _ first second) = ⊎_elim
        (λ (one : t.index ≡ v.index). let P : ℕ → Type 0 = λ i. (i ≡ u.index) ⊎ IsAncestor (base_in raw) i u.index in subst P (sym one) (derived v u second))
        (λ (above : IsAncestor (base_in raw) t.index v.index). ⊎_elim
        (λ (one : v.index ≡ u.index). let P : ℕ → Type 0 = λ j. IsAncestor (base_in raw) t.index j in inr (subst P one above))
        (λ (further_up : IsAncestor (base_in raw) v.index u.index). inr (above_above (base_in raw) t.index v.index u.index above further_up))
        (derived v u second))
        (derived t v first)

    -- and so is what stands above a type
    pub above : (t u : TypeId) → IsAbove model u t → IsAncestor (base_in raw) t.index u.index
    above t u is = ⊎_elim
        (λ (one : is.0.index ≡ u.index). direct t.index u.index (has_base t is.0 is.1 ∙ ap Some one))
        (λ (up : IsAncestor (base_in raw) is.0.index u.index). further t.index is.0.index u.index (has_base t is.0 is.1) up)
        (derived is.0 u is.2)

    -- V8
    pub no_circle : ((i : ℕ) → ¬ IsAncestor (base_in raw) i i) → HasNoCircle model
    no_circle never t is = never t.index (above t t is)
