-- Kinds of dependent properties: those of keys.
use Rattle.std.proofs.Common.{◌≡◌, map, option_map, slice_get, Option, Some, None, Contains, refl, sym, ap, subst, ◌∙◌}
use Rattle.std.proofs.lemmas.List.Elements.{All-contains}
use Rattle.std.proofs.lemmas.Option.{MatchOption-at_some}
use Rattle.emc_base.specs.declared.value.Kind.TheVariants as kind
use Rattle.emc_base.proofs.Lists.{at_once}
use Rattle.emc_base.proofs.Mapped.{contains_at, contains_map}
use Rattle.emc_base.proofs.Numbered.{map_contains}
use Rattle.round_trip.specs.Words.{PropId, Kind, EntityModel, Prop, Assoc, Constraint, At, key_props, principal_end}
use Rattle.round_trip.specs.soundness.models.Constraints.{HasIndependentMults, HasMatchedLists, IsSoundAssoc, IsSoundConstraint}
use Rattle.round_trip.specs.soundness.models.Inheritance.{IsKeyProp}
use Rattle.round_trip.specs.soundness.models.Models.{IsSoundModel}
use Rattle.round_trip.specs.soundness.mappings.Joined.{IsDependent}
use Rattle.round_trip.specs.soundness.Kinds.{IsKeyKind, IsSoundKind, without_bound}
use Rattle.round_trip.specs.soundness.Lookups.{prop_kind}
use Rattle.round_trip.proofs.Classes.{key_unbound}
use Rattle.round_trip.proofs.Lookups.{prop_kind_at}
use Rattle.schema_laws.proofs.sound_types.Inherited.{key_prop}

key_bound : (k : Kind) → IsKeyKind (without_bound k) → IsKeyKind k
key_bound kind.Boolean key = absurd key
key_bound kind.Byte key = absurd key
key_bound kind.Int16 key = key
key_bound kind.Int32 key = key
key_bound kind.Int64 key = key
key_bound (kind.Text bound) key = key
key_bound (kind.Binary bound) key = absurd key
key_bound (kind.Enum enumeration) key = absurd key

module _ (model : EntityModel) (sound : IsSoundModel model) where
  pub sound_kind : (p : PropId) (declared : Prop) → At model.props p.index declared → IsSoundKind declared.kind
  sound_kind p declared here =
      let Sound : Prop → Type 0 = λ one. IsSoundKind one.kind in
      All-contains Sound model.props declared sound.kinds (contains_at model.props p.index declared here)

  -- a dependent property is a whole number or a text, as a key is
  pub dependent_kind : (p : PropId) → IsDependent model p → (declared : Prop) × At model.props p.index declared × IsKeyKind declared.kind
  dependent_kind p by =
      let assoc : Assoc = by.assoc in
      let constraint : Constraint = by.constraint in
      let is : IsSoundAssoc model assoc = All-contains (IsSoundAssoc model) model.assocs assoc sound.assocs by.is_assoc in
      let lists : HasMatchedLists model assoc constraint =
      (MatchOption-at_some (HasIndependentMults assoc) (IsSoundConstraint model assoc) constraint by.constrained is.kind).lists in
      let told : PropId → Option Kind = λ one. option_map without_bound (prop_kind model one) in
      let among : Contains (map told constraint.principal) (told p) =
      subst (λ kinds. Contains kinds (told p)) (sym lists.kinds) (contains_map told constraint.dependent p by.among) in
      let q = map_contains told constraint.principal (told p) among in
      let is_key : Contains (key_props model (principal_end assoc constraint).ty) q.0 =
      All-contains (Contains (key_props model (principal_end assoc constraint).ty)) constraint.principal q.0 lists.principal.only q.1 in
      let key : IsKeyProp model q.0 = key_prop model sound q.0 (principal_end assoc constraint).ty is_key in
      let kind_is : Some (without_bound key.declared.kind) ≡ told p = sym (ap (option_map without_bound) (prop_kind_at model q.0 key.declared key.is_declared)) ∙ q.2 in
      at_place (slice_get model.props p.index) refl (key_unbound key.declared.kind key.kind) kind_is
    where
      at_place : (found : Option Prop) → slice_get model.props p.index ≡ found → {k : Kind} → IsKeyKind k
          → Some k ≡ option_map without_bound (option_map (λ (one : Prop). one.kind) found)
          → (declared : Prop) × At model.props p.index declared × IsKeyKind declared.kind
      at_place None none {k} key is = cc
      at_place (Some declared) here {k} key is = let same : k ≡ without_bound declared.kind = cc in (declared, here, key_bound declared.kind (subst IsKeyKind same key))

  pub dependent_is : (p : PropId) → IsDependent model p → (declared : Prop) → At model.props p.index declared → IsKeyKind declared.kind
  dependent_is p by declared here =
      let found = dependent_kind p by in
      let P : Prop → Type 0 = λ one. IsKeyKind one.kind in
      subst P (at_once model.props p.index found.0 declared found.1 here) found.2
