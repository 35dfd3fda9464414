-- Properties and keys of the types of a sound model: what base types give, and which properties are parts of keys.
use Rattle.std.proofs.Common.{◌≡◌, ◌⊎◌, ⊎_elim, ℕ, zero, suc, ◌==◌, [], length, Bool, slice_get, Contains, MatchOption, Option, Some, None, refl, sym, ap, subst, ◌∙◌}
use Rattle.std.specs.Bool.{⊤}
use Rattle.std.specs.Option.{option_map_or}
use Rattle.std.proofs.lemmas.Bool.Decides.{Decides-eqb}
use Rattle.std.proofs.lemmas.Option.{MatchOption-at_none, MatchOption-at_some, slice_get_within}
use Rattle.std.proofs.lemmas.List.Elements.{All-contains, Contains-append_cases, Contains-append_left, Contains-append_right}
use Rattle.emc_base.specs.Lists.{places_of}
use Rattle.emc_base.proofs.Lists.{at_once, item_at}
use Rattle.emc_base.proofs.Mapped.{contains_at}
use Rattle.emc_base.proofs.Numbered.{at_places, map_contains}
use Rattle.round_trip.specs.Words.{EntityModel, EntityType, Prop, PropId, TypeId, IsA, At, key_props, props_of}
use Rattle.edm_types.specs.IsA.{same, base, chain}
use Rattle.round_trip.specs.soundness.models.Inheritance.{IsKeyProp, IsRootKey, declared_props, prop_numbered}
use Rattle.round_trip.specs.soundness.models.ModelIds.{IsTypeId}
use Rattle.round_trip.specs.soundness.models.Models.{IsSoundModel}
use Rattle.graphs.proofs.base_chains.Chains.{Ends}
use Rattle.edm_types.proofs.Lookups.{key_at}
use Rattle.schema_laws.proofs.sound_types.BasePlaces.{base_ends, base_here, base_place}
use Rattle.schema_laws.proofs.state_demand.lists.Lists.{none_in_nil}
use Rattle.schema_laws.proofs.sound_demand.Keys.{inherits_keys}
use Rattle.schema_laws.specs.sound_types.KeyParts.{IsPartOfKey}

module _ (model : EntityModel) (sound : IsSoundModel model) where
  props_at : (t : TypeId) (type : EntityType) → At model.types t.index type → props_of model t ≡ type.props
  props_at t type here = ap (λ found. option_map_or (λ (one : EntityType). one.props) found []) here

  -- what is so of a type without a base, and of a type where it is so of its base, is so of all
  module _ (P : TypeId → Type 0) (root : (t : TypeId) (type : EntityType) → At model.types t.index type → type.base ≡ None → P t)
      (derived : (t u : TypeId) (type : EntityType) → At model.types t.index type → type.base ≡ Some u → P u → P t) where
    base_there : (t u : TypeId) (type : EntityType) → At model.types t.index type → type.base ≡ Some u → (above : EntityType) × At model.types u.index above
    base_there t u type here is =
        let Within : EntityType → Type 0 = λ one. MatchOption one.base ⊤ (IsTypeId model) in
        item_at model.types u.index (MatchOption-at_some ⊤ (IsTypeId model) u is (All-contains Within model.types type sound.ids.bases
        (contains_at model.types t.index type here)))

    climb : (n : ℕ) (t : TypeId) → Ends (base_place model) n t.index → (type : EntityType) → At model.types t.index type → P t
    climb zero t end type here = absurd end
    climb (suc n) t end type here = by type.base refl
        (λ u has. let above = base_there t u type here has in climb n u
        (MatchOption-at_some ⊤ (λ k. Ends (base_place model) n k) u.index (base_here model t u (type, here, has)) end) above.0 above.1)
      where
        by : (above : Option TypeId) → type.base ≡ above → ((u : TypeId) → type.base ≡ Some u → P u) → P t
        by None none up = root t type here none
        by (Some u) is up = derived t u type here is (up u is)

    by_bases : (t : TypeId) (type : EntityType) → At model.types t.index type → P t
    by_bases t type here = climb (length model.types) t (base_ends model sound t.index (slice_get_within model.types t.index type here)) type here

  -- a type that has a key or a property stands in the model
  type_of_key : (t : TypeId) (p : PropId) → Contains (key_props model t) p → (type : EntityType) × At model.types t.index type
  type_of_key t p has = by (slice_get model.types t.index) refl
    where
      by : (found : Option EntityType) → slice_get model.types t.index ≡ found → (type : EntityType) × At model.types t.index type
      by None none = absurd (none_in_nil p (subst (λ key. Contains key p) (ap (λ found. option_map_or (λ (one : EntityType). one.key) found []) none) has))
      by (Some type) here = (type, here)

  type_of_prop : (t : TypeId) (p : PropId) → Contains (props_of model t) p → (type : EntityType) × At model.types t.index type
  type_of_prop t p has = by (slice_get model.types t.index) refl
    where
      by : (found : Option EntityType) → slice_get model.types t.index ≡ found → (type : EntityType) × At model.types t.index type
      by None none = absurd (none_in_nil p (subst (λ props. Contains props p) (ap (λ found. option_map_or (λ (one : EntityType). one.props) found []) none) has))
      by (Some type) here = (type, here)

  module _ (p : PropId) where
    -- properties are those of the base, and those that are declared
    props_split : (t : TypeId) (type : EntityType) → At model.types t.index type → Contains (props_of model t) p
        → Contains (option_map_or (props_of model) type.base []) p ⊎ Contains (declared_props model t) p
    props_split t type here has =
        Contains-append_cases (option_map_or (props_of model) type.base []) (declared_props model t) p
        (subst (λ props. Contains props p) (props_at t type here ∙ (sound.types t type here).props) has)

    own_prop : (t : TypeId) (type : EntityType) → At model.types t.index type → Contains (declared_props model t) p → Contains (props_of model t) p
    own_prop t type here has =
        subst (λ props. Contains props p) (sym (props_at t type here ∙ (sound.types t type here).props))
        (Contains-append_right (option_map_or (props_of model) type.base []) (declared_props model t) p has)

    base_prop : (t u : TypeId) (type : EntityType) → At model.types t.index type → type.base ≡ Some u → Contains (props_of model u) p → Contains (props_of model t) p
    base_prop t u type here is has =
        let above : option_map_or (props_of model) type.base [] ≡ props_of model u = ap (λ found. option_map_or (props_of model) found []) is in
        subst (λ props. Contains props p) (sym (props_at t type here ∙ (sound.types t type here).props))
        (Contains-append_left (option_map_or (props_of model) type.base []) (declared_props model t) p (subst (λ props. Contains props p) (sym above) has))

    -- a type has the properties of each type that it is derived from
    pub inherits_prop : (t u : TypeId) → IsA model t u → Contains (props_of model u) p → Contains (props_of model t) p
    inherits_prop t u (same _) has = has
    inherits_prop t u (base _ _ (type, here, is)) has = base_prop t u type here is has
    inherits_prop t u (chain _ v _ first second) has = inherits_prop t v first (inherits_prop v u second has)

    declared_by : (t : TypeId) → Contains (declared_props model t) p → (declared : Prop) × At model.props p.index declared × (declared.owner ≡ t)
    declared_by t has =
        let test : Prop → Bool = λ one. one.owner.index == t.index in
        let place = map_contains prop_numbered (places_of test model.props) p has in
        let found = at_places test model.props place.0 place.1 in
        let P : ℕ → Type 0 = λ k. At model.props k found.0 in
        let number = (Decides-eqb found.0.owner.index t.index).0 found.2 in
        (found.0, subst P (ap (λ (q : PropId). q.index) place.2) found.1, λ k. record { index = number k })

    -- a property is declared by a type above
    abbrev IsDeclaredAbove : TypeId → Type 0
    IsDeclaredAbove t = Contains (props_of model t) p → (declared : Prop) × At model.props p.index declared × IsA model t declared.owner

    own_above : (t : TypeId) → Contains (declared_props model t) p → (declared : Prop) × At model.props p.index declared × IsA model t declared.owner
    own_above t has = let own = declared_by t has in (own.0, own.1, subst (IsA model t) (sym own.2) (same t))

    above_root : (t : TypeId) (type : EntityType) → At model.types t.index type → type.base ≡ None → IsDeclaredAbove t
    above_root t type here none has = ⊎_elim
        (λ (upper : Contains (option_map_or (props_of model) type.base []) p).
        absurd (none_in_nil p (subst (λ props. Contains props p) (ap (λ found. option_map_or (props_of model) found []) none) upper)))
        (λ (own : Contains (declared_props model t) p). own_above t own)
        (props_split t type here has)

    above_derived : (t u : TypeId) (type : EntityType) → At model.types t.index type → type.base ≡ Some u → IsDeclaredAbove u → IsDeclaredAbove t
    above_derived t u type here is up has = ⊎_elim
        (λ (upper : Contains (option_map_or (props_of model) type.base []) p).
        let found = up (subst (λ props. Contains props p) (ap (λ one. option_map_or (props_of model) one []) is) upper) in
        (found.0, found.1, chain t u found.0.owner (base t u (type, here, is)) found.2))
        (λ (own : Contains (declared_props model t) p). own_above t own)
        (props_split t type here has)

    pub declared_above : (t : TypeId) → Contains (props_of model t) p → (declared : Prop) × At model.props p.index declared × IsA model t declared.owner
    declared_above t has = let found = type_of_prop t p has in by_bases IsDeclaredAbove above_root above_derived t found.0 found.1 has

    -- a part of a type's key is a property of it, and a part of the key of the type that declares it
    abbrev IsOwnKey : TypeId → Type 0
    IsOwnKey t = Contains (key_props model t) p → Contains (props_of model t) p × IsPartOfKey model p

    key_root : (t : TypeId) (type : EntityType) → At model.types t.index type → type.base ≡ None → IsOwnKey t
    key_root t type here none has =
        let is : IsRootKey model t type.key =
        MatchOption-at_none (IsRootKey model t type.key) (λ above. type.key ≡ key_props model above) none (sound.types t type here).key in
        let own : Contains (declared_props model t) p = All-contains (Contains (declared_props model t)) type.key p is.own
        (subst (λ key. Contains key p) (key_at model t type here) has) in
        let by = declared_by t own in
        (own_prop t type here own, (by.0, by.1, subst (λ u. Contains (key_props model u) p) (sym by.2) has))

    key_derived : (t u : TypeId) (type : EntityType) → At model.types t.index type → type.base ≡ Some u → IsOwnKey u → IsOwnKey t
    key_derived t u type here is up has =
        let keys : key_props model t ≡ key_props model u = (inherits_keys model sound).same t u (base t u (type, here, is)) in
        let upper = up (subst (λ key. Contains key p) keys has) in
        (base_prop t u type here is upper.0, upper.1)

    key_own : (t : TypeId) → Contains (key_props model t) p → Contains (props_of model t) p × IsPartOfKey model p
    key_own t has = let found = type_of_key t p has in by_bases IsOwnKey key_root key_derived t found.0 found.1 has

    pub key_among : (t : TypeId) → Contains (key_props model t) p → Contains (props_of model t) p
    key_among t has = (key_own t has).0

    pub key_is_part : (t : TypeId) → Contains (key_props model t) p → IsPartOfKey model p
    key_is_part t has = (key_own t has).1

    -- a part of a key is one of the key of each type that has it
    pub part_of_type : (t : TypeId) → Contains (props_of model t) p → IsPartOfKey model p → Contains (key_props model t) p
    part_of_type t has part =
        let above = declared_above t has in
        let one : part.0 ≡ above.0 = at_once model.props p.index part.0 above.0 part.1 above.1 in
        let P : TypeId → Type 0 = λ u. Contains (key_props model u) p in
        subst (λ key. Contains key p) (sym ((inherits_keys model sound).same t above.0.owner above.2)) (subst P (ap (λ (d : Prop). d.owner) one) part.2)

    -- it may not be null, and is a whole number or a text
    pub key_prop : (t : TypeId) → Contains (key_props model t) p → IsKeyProp model p
    key_prop t has =
        let found = type_of_key t p has in
        All-contains (IsKeyProp model) found.0.key p (sound.types t found.0 found.1).key_props (subst (λ key. Contains key p) (key_at model t found.0 found.1) has)
