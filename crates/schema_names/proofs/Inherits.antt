-- A sound model hands properties on from base types; and the property of a name, by a climb from a type to its base types.
use Rattle.std.proofs.Common.{◌≡◌, ℕ, ◌+◌, ◌<◌, List, [], ◌∷◌, length, find, slice_get, MatchOption, Option, Some, None, option_map, refl, sym, ap, ◌∙◌, arith}
use Rattle.std.specs.Bool.{⊤}
use Rattle.std.specs.Option.{option_and_then, option_map_or, option_or}
use Rattle.std.proofs.lemmas.List.{length-append}
use Rattle.std.proofs.lemmas.List.Elements.{All-contains}
use Rattle.std.proofs.lemmas.List.Folds.{find-append}
use Rattle.std.proofs.lemmas.Option.{MatchOption-at_some, slice_get_within}
use Rattle.emc_base.proofs.Mapped.{contains_at}
use Rattle.graphs.specs.base_chains.Chains.{IsAncestor, chain, direct, further}
use Rattle.graphs.proofs.base_chains.Chains.{chain_step, ends}
use Rattle.edm_types.specs.Forest.{type_numbered}
use Rattle.edm_types.specs.IsA as is
use Rattle.round_trip.specs.Words.{EntityModel, EntityType, TypeId, PropId, HasBase, props_of}
use Rattle.round_trip.specs.soundness.models.Inheritance.{declared_props}
use Rattle.round_trip.specs.soundness.Lookups.{IsAncestor as IsAbove}
use Rattle.round_trip.specs.soundness.models.ModelIds.{IsTypeId}
use Rattle.round_trip.specs.soundness.models.Models.{IsSoundModel}
use Rattle.schema_laws.proofs.sound_types.Once.{names_once}
use Rattle.schema_names.specs.Inherited.{InheritsProps, base_place}
use Rattle.schema_names.specs.SchemaNames.{has_name, own_prop, prop_named}

-- the first of three
first_of_three : {X : Type 0} (one two three : Option X) → option_or one (option_or two three) ≡ option_or (option_or one two) three
first_of_three None two three = refl
first_of_three (Some x) two three = refl

module _ (model : EntityModel) where
  -- the base type at a place
  pub has_base : (i j : ℕ) → base_place model i ≡ Some j → HasBase model (type_numbered i) (type_numbered j)
  has_base i j = by (slice_get model.types i) refl
    where
      base_is : (type : EntityType) (base : Option TypeId) → type.base ≡ base → option_map (λ base. base.index) base ≡ Some j → type.base ≡ Some (type_numbered j)
      base_is type None is none = absurd cc
      base_is type (Some t) is same = is ∙ ap (λ (found : Option ℕ). option_map type_numbered found) same

      by : (found : Option EntityType) → slice_get model.types i ≡ found → option_map (λ base. base.index) (option_and_then (λ type. type.base) found) ≡ Some j → HasBase model (type_numbered i) (type_numbered j)
      by None at none = absurd cc
      by (Some type) at same = (type, at, base_is type type.base refl same)

  -- a place above another is that of a type above it
  above : (i j : ℕ) → IsAncestor (base_place model) i j → IsAbove model (type_numbered j) (type_numbered i)
  above i j (direct _ _ here) = (type_numbered j, has_base i j here, is.same (type_numbered j))
  above i j (further _ k _ here rest) =
      let upper = above k j rest in
      (type_numbered k, has_base i k here, is.chain (type_numbered k) upper.0 (type_numbered j) (is.base (type_numbered k) upper.0 upper.1) upper.2)

  pub sound_inherits : IsSoundModel model → InheritsProps model
  sound_inherits sound = record {
    within = λ i j here.
        let has = has_base i j here in
        let P : EntityType → Type 0 = λ type. MatchOption type.base ⊤ (IsTypeId model) in
        MatchOption-at_some ⊤ (IsTypeId model) (type_numbered j) has.2 (All-contains P model.types has.0 sound.ids.bases (contains_at model.types i has.0 has.1));
    rooted = λ t up. sound.bases (type_numbered t) (above t t up);
    props = λ t type here. (sound.types (type_numbered t) type here).props;
    named = names_once model sound;
  }

  module _ (inherits : InheritsProps model) where
    -- a type has a property from its base type, or else declares it
    pub named_by_base : (t : ℕ) (name : List ℕ)
        → prop_named model t name ≡ option_or (option_and_then (λ base. prop_named model base name) (base_place model t)) (own_prop model t name)
    named_by_base t name = by (slice_get model.types t) refl
      where
        from_base : (base : Option TypeId)
            → find (has_name model name) (option_map_or (props_of model) base []) ≡ option_and_then (λ place. prop_named model place name) (option_map (λ u. u.index) base)
        from_base None = refl
        from_base (Some u) = refl

        by : (found : Option EntityType) → slice_get model.types t ≡ found
            → find (has_name model name) (option_map_or (λ type. type.props) found [])
            ≡ option_or (option_and_then (λ base. prop_named model base name) (option_map (λ base. base.index) (option_and_then (λ type. type.base) found)))
            (option_and_then (λ type. find (has_name model name) (declared_props model (type_numbered t))) found)
        by None here = refl
        by (Some type) here =
            ap (find (has_name model name)) (inherits.props t type here)
            ∙ find-append (has_name model name) (option_map_or (props_of model) type.base []) (declared_props model (type_numbered t))
            ∙ ap (λ (found : Option PropId). option_or found (find (has_name model name) (declared_props model (type_numbered t)))) (from_base type.base)

    -- one type further up
    pub climbed : (t : ℕ) (name : List ℕ) (found : Option PropId)
        → option_or (option_and_then (λ base. prop_named model base name) (base_place model t)) (option_or (own_prop model t name) found) ≡ option_or (prop_named model t name) found
    climbed t name found =
        first_of_three (option_and_then (λ base. prop_named model base name) (base_place model t)) (own_prop model t name) found
        ∙ ap (λ (had : Option PropId). option_or had found) (sym (named_by_base t name))

    -- how many types are left to climb over
    abbrev pub types_left : Option ℕ → ℕ
    types_left next = option_map_or (λ t. 1 + length (chain (base_place model) (length model.types) t)) next 0

    -- fewer, at the base type
    pub fewer_left : (t : ℕ) → types_left (base_place model t) < types_left (Some t)
    fewer_left t = by (base_place model t) refl
      where
        inside : (j : ℕ) → base_place model t ≡ Some j → t < length model.types
        inside j here = let has = has_base t j here in slice_get_within model.types t has.0 has.1

        by : (next : Option ℕ) → base_place model t ≡ next → types_left next < types_left (Some t)
        by None root = omega arith
        by (Some j) here =
            let end = ends (base_place model) inherits.rooted (length model.types) inherits.within t (inside j here) in
            let longer : length (chain (base_place model) (length model.types) t) ≡ length (chain (base_place model) (length model.types) j) + 1 =
            ap (λ (places : List ℕ). length places) (chain_step (base_place model) (length model.types) t j end here) ∙ length-append (chain (base_place model) (length model.types) j) (t ∷ []) in
            omega arith
