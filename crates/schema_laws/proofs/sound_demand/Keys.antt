-- Keys of a sound model: a type has its base type's, and no property twice.
use Rattle.std.proofs.Common.{◌≡◌, ◌≢◌, ℕ, zero, suc, ◌≤◌, List, [], length, slice_get, MatchOption, Option, Some, None, refl, sym, ap, subst, ◌∙◌, arith}
use Rattle.std.specs.Bool.{⊤}
use Rattle.std.specs.Option.{option_map_or}
use Rattle.std.proofs.lemmas.Option.{MatchOption-at_none, MatchOption-at_some, slice_get_within}
use Rattle.std.proofs.lemmas.List.Elements.{All-contains}
use Rattle.emc_base.specs.Lists.{AreApart}
use Rattle.emc_base.proofs.Lists.{item_at}
use Rattle.emc_base.proofs.Mapped.{contains_at}
use Rattle.round_trip.specs.Words.{EntityModel, EntityType, PropId, TypeId, HasBase, At, key_props}
use Rattle.round_trip.specs.soundness.models.Inheritance.{IsRootKey}
use Rattle.round_trip.specs.soundness.models.ModelIds.{IsTypeId}
use Rattle.round_trip.specs.soundness.models.Models.{IsSoundModel}
use Rattle.graphs.proofs.base_chains.Chains.{Ends}
use Rattle.edm_types.proofs.Lookups.{key_at}
use Rattle.round_trip.proofs.Lookups.{inherited_key}
use Rattle.schema_laws.proofs.sound_types.BasePlaces.{base_ends, base_here, base_place}
use Rattle.schema_laws.specs.state_demand.Owners.{InheritsKeys}

module _ (model : EntityModel) (sound : IsSoundModel model) where
  base_key : (t u : TypeId) → HasBase model t u → key_props model t ≡ key_props model u
  base_key t u (type, here, is) =
      key_at model t type here ∙ MatchOption-at_some (IsRootKey model t type.key) (λ above. type.key ≡ key_props model above) u is (sound.types t type here).key

  pub inherits_keys : InheritsKeys model
  inherits_keys = record { same = inherited_key model sound }

  none_few : (key : List PropId) → key ≡ [] → length key ≤ 4
  none_few key none = subst (λ props. length props ≤ 4) (sym none) (omega arith)

  nil_apart : (props : List PropId) → props ≡ [] → AreApart props
  nil_apart props none = let nothing : AreApart {X = PropId} [] = λ i j d below within. absurd (omega arith) in subst AreApart (sym none) nothing

  climb : (n : ℕ) (t : TypeId) → Ends (base_place model) n t.index → AreApart (key_props model t)
  climb zero t end = absurd end
  climb (suc n) t end = by (slice_get model.types t.index) refl
      (λ u has. climb n u (MatchOption-at_some ⊤ (λ k. Ends (base_place model) n k) u.index (base_here model t u has) end))
    where
      by_base : (type : EntityType) → At model.types t.index type → ((u : TypeId) → HasBase model t u → AreApart (key_props model u)) → (above : Option TypeId)
          → type.base ≡ above → AreApart (key_props model t)
      by_base type here up None none =
          subst AreApart (sym (key_at model t type here))
          (MatchOption-at_none (IsRootKey model t type.key) (λ one. type.key ≡ key_props model one) none (sound.types t type here).key).once
      by_base type here up (Some u) is =
          let has : HasBase model t u = (type, here, is) in
          subst AreApart (sym (base_key t u has)) (up u has)

      by : (found : Option EntityType) → slice_get model.types t.index ≡ found → ((u : TypeId) → HasBase model t u → AreApart (key_props model u)) → AreApart (key_props model t)
      by None here up = nil_apart (key_props model t) (ap (λ found. option_map_or (λ (one : EntityType). one.key) found []) here)
      by (Some type) here up = by_base type here up type.base refl

  -- no property stands twice in a key
  pub keys_apart : (t : TypeId) → AreApart (key_props model t)
  keys_apart t = by (slice_get model.types t.index) refl
    where
      by : (found : Option EntityType) → slice_get model.types t.index ≡ found → AreApart (key_props model t)
      by None here = nil_apart (key_props model t) (ap (λ found. option_map_or (λ (one : EntityType). one.key) found []) here)
      by (Some type) here = climb (length model.types) t (base_ends model sound t.index (slice_get_within model.types t.index type here))

  -- the base type of a type is one of the model's
  base_there : (t u : TypeId) → HasBase model t u → (type : EntityType) × At model.types u.index type
  base_there t u (type, here, is) =
      let Within : EntityType → Type 0 = λ one. MatchOption one.base ⊤ (IsTypeId model) in
      item_at model.types u.index (MatchOption-at_some ⊤ (IsTypeId model) u is (All-contains Within model.types type sound.ids.bases (contains_at model.types t.index type here)))

  climb_some : (n : ℕ) (t : TypeId) → Ends (base_place model) n t.index → (type : EntityType) → At model.types t.index type → key_props model t ≢ []
  climb_some zero t end type here = absurd end
  climb_some (suc n) t end type here =
      by type.base refl (λ u has. let above = base_there t u has in climb_some n u
      (MatchOption-at_some ⊤ (λ k. Ends (base_place model) n k) u.index (base_here model t u has) end) above.0 above.1)
    where
      by : (above : Option TypeId) → type.base ≡ above → ((u : TypeId) → HasBase model t u → key_props model u ≢ []) → key_props model t ≢ []
      by None none up empty =
          (MatchOption-at_none (IsRootKey model t type.key) (λ one. type.key ≡ key_props model one) none (sound.types t type here).key).some (sym (key_at model t type here) ∙ empty)
      by (Some u) is up empty = let has : HasBase model t u = (type, here, is) in up u has (sym (base_key t u has) ∙ empty)

  -- a key has a property
  pub keys_some : (t : TypeId) (type : EntityType) → At model.types t.index type → key_props model t ≢ []
  keys_some t type here = climb_some (length model.types) t (base_ends model sound t.index (slice_get_within model.types t.index type here)) type here

  abbrev AreFew : List PropId → Type 0
  AreFew key = length key ≤ 4

  climb_few : (n : ℕ) (t : TypeId) → Ends (base_place model) n t.index → AreFew (key_props model t)
  climb_few zero t end = absurd end
  climb_few (suc n) t end = by (slice_get model.types t.index) refl
      (λ u has. climb_few n u (MatchOption-at_some ⊤ (λ k. Ends (base_place model) n k) u.index (base_here model t u has) end))
    where
      by_base : (type : EntityType) → At model.types t.index type → ((u : TypeId) → HasBase model t u → AreFew (key_props model u)) → (above : Option TypeId)
          → type.base ≡ above → AreFew (key_props model t)
      by_base type here up None none =
          subst AreFew (sym (key_at model t type here))
          (MatchOption-at_none (IsRootKey model t type.key) (λ one. type.key ≡ key_props model one) none (sound.types t type here).key).few
      by_base type here up (Some u) is = let has : HasBase model t u = (type, here, is) in subst AreFew (sym (base_key t u has)) (up u has)

      by : (found : Option EntityType) → slice_get model.types t.index ≡ found → ((u : TypeId) → HasBase model t u → AreFew (key_props model u)) → AreFew (key_props model t)
      by None here up = none_few (key_props model t) (ap (λ found. option_map_or (λ (one : EntityType). one.key) found []) here)
      by (Some type) here up = by_base type here up type.base refl

  -- a key has at most four parts
  pub keys_few : (t : TypeId) → length (key_props model t) ≤ 4
  keys_few t = by (slice_get model.types t.index) refl
    where
      by : (found : Option EntityType) → slice_get model.types t.index ≡ found → AreFew (key_props model t)
      by None here = none_few (key_props model t) (ap (λ found. option_map_or (λ (one : EntityType). one.key) found []) here)
      by (Some type) here = climb_few (length model.types) t (base_ends model sound t.index (slice_get_within model.types t.index type here))
