-- In a sound model no key has a property twice.
use Rattle.std.proofs.Common.{◌≡◌, ℕ, zero, suc, ◌<◌, ◌≤◌, [], MatchOption, Option, Some, None, refl, sym, ap, subst, ◌∙◌, arith}
use Rattle.std.specs.Bool.{⊤}
use Rattle.std.specs.Option.{option_and_then, option_map, option_map_or}
use Rattle.std.proofs.lemmas.List.Elements.{All-contains}
use Rattle.std.proofs.lemmas.Option.{MatchOption-at_some}
use Rattle.emc_base.specs.Lists.{At, AreApart}
use Rattle.emc_base.proofs.Lists.{item_at}
use Rattle.emc_base.proofs.Mapped.{contains_at}
use Rattle.edm_types.specs.Forest.{type_numbered}
use Rattle.round_trip.specs.Words.{EntityModel, EntityType, TypeId, key_props}
use Rattle.round_trip.specs.soundness.models.Inheritance.{IsRootKey}
use Rattle.round_trip.specs.soundness.models.ModelIds.{IsTypeId}
use Rattle.round_trip.specs.soundness.models.Models.{IsSoundModel}
use Rattle.schema_names.specs.Inherited.{base_place}
use Rattle.schema_names.proofs.Inherits.{fewer_left, sound_inherits, types_left}

module _ (model : EntityModel) (sound : IsSoundModel model) where
  -- the type that is the base of one of the model's
  base_type : (t : ℕ) (type : EntityType) (base : TypeId) → At model.types t type → type.base ≡ Some base → (above : EntityType) × At model.types base.index above
  base_type t type base here is =
      let P : EntityType → Type 0 = λ one. MatchOption one.base ⊤ (IsTypeId model) in
      item_at model.types base.index (MatchOption-at_some ⊤ (IsTypeId model) base is (All-contains P model.types type sound.ids.bases (contains_at model.types t type here)))

  -- that type has fewer above it
  fewer_above : (t : ℕ) (type : EntityType) (base : TypeId) → At model.types t type → type.base ≡ Some base
      → types_left model (sound_inherits model sound) (Some base.index) < types_left model (sound_inherits model sound) (Some t)
  fewer_above t type base here is =
      let at : base_place model t ≡ Some base.index =
      ap (λ (o : Option EntityType). option_map (λ (up : TypeId). up.index) (option_and_then (λ one. one.base) o)) here ∙ ap (option_map (λ (up : TypeId). up.index)) is in
      subst (λ (o : Option ℕ). types_left model (sound_inherits model sound) o < types_left model (sound_inherits model sound) (Some t)) at (fewer_left model (sound_inherits model sound) t)

  -- a key is apart where those of the types above are
  from_above : (t : ℕ) (type : EntityType) → At model.types t type
      → ((u : ℕ) (above : EntityType) → types_left model (sound_inherits model sound) (Some u) < types_left model (sound_inherits model sound) (Some t) → At model.types u above
      → AreApart above.key)
      → AreApart type.key
  from_above t type here upper = by type.base refl (sound.types (type_numbered t) type here).key
    where
      Key : Option TypeId → Type 0
      Key base = MatchOption base (IsRootKey model (type_numbered t) type.key) (λ above. type.key ≡ key_props model above)

      by : (base : Option TypeId) → type.base ≡ base → Key type.base → AreApart type.key
      by None none key = (subst Key none key).once
      by (Some base) is key =
          let same : type.key ≡ key_props model base = subst Key is key in
          let above = base_type t type base here is in
          let from : key_props model base ≡ above.0.key = ap (λ (o : Option EntityType). option_map_or (λ (one : EntityType). one.key) o []) above.1 in
          subst AreApart (sym (same ∙ from)) (upper base.index above.0 (fewer_above t type base here is) above.1)

  -- by the number of types above a type
  apart_within : (n t : ℕ) (type : EntityType) → types_left model (sound_inherits model sound) (Some t) ≤ n → At model.types t type → AreApart type.key
  apart_within zero t type few here = absurd (omega arith)
  apart_within (suc n) t type few here = from_above t type here
      (λ u above fewer at.
      let less : types_left model (sound_inherits model sound) (Some u) < types_left model (sound_inherits model sound) (Some t) = fewer in
      apart_within n u above (omega arith) at)

  -- each key
  pub keys_apart : (t : ℕ) (type : EntityType) → At model.types t type → AreApart type.key
  keys_apart t type = apart_within (types_left model (sound_inherits model sound) (Some t)) t type (omega arith)
