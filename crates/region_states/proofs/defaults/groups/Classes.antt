-- Kinds of properties that are joined, and of dependent ones.
use Rattle.std.proofs.Common.{◌≡◌, ⊎_elim, inr, Option, Some, None, refl, sym, ap, subst, ◌∙◌}
use Rattle.std.proofs.lemmas.List.Elements.{All-contains}
use Rattle.emc_base.specs.declared.value.Under.{Under}
use Rattle.emc_base.specs.declared.value.Kind.TheVariants as kind
use Rattle.emc_base.specs.declared.value.Under.TheVariants as under
use Rattle.emc_base.proofs.Lists.{at_once}
use Rattle.round_trip.specs.Words.{TableId, ColId, PropId, Kind, Prop, Schema, At}
use Rattle.round_trip.specs.soundness.mappings.Joined.{IsDependent, Joined, WritesNoBarredEnum, prop, col}
use Rattle.round_trip.specs.soundness.Kinds.{IsBinary, IsEnum, IsKeyKind, under_kind, without_bound}
use Rattle.round_trip.specs.soundness.Lookups.{column_kind, prop_kind}
use Rattle.round_trip.specs.soundness.mappings.Mappings.{IsSoundSchema}
use Rattle.round_trip.proofs.Classes.{HasClass, IsPaired, class_of, joined_class, joined_paired}
use Rattle.round_trip.proofs.Lookups.{column_kind_at, prop_kind_at}
use Rattle.schema_laws.proofs.sound_types.Dependent.{dependent_is, dependent_kind}
use Rattle.schema_laws.proofs.sound_demand.Fitting.{sound_fragment}

-- it is no enumeration, and its class is one of keys
key_class : (k : Kind) → IsKeyKind k → IsKeyKind (class_of k) × ¬ IsEnum k
unfolding class_of
key_class kind.Boolean key = absurd key
key_class kind.Byte key = absurd key
key_class kind.Int16 key = (key, λ enumeration. enumeration)
key_class kind.Int32 key = (key, λ enumeration. enumeration)
key_class kind.Int64 key = (key, λ enumeration. enumeration)
key_class (kind.Text bound) key = (key, λ enumeration. enumeration)
key_class (kind.Binary bound) key = absurd key
key_class (kind.Enum enumeration) key = absurd key

class_key : (k : Kind) → ¬ IsEnum k → IsKeyKind (class_of k) → IsKeyKind k
unfolding class_of
class_key kind.Boolean no_enum key = absurd key
class_key kind.Byte no_enum key = absurd key
class_key kind.Int16 no_enum key = key
class_key kind.Int32 no_enum key = key
class_key kind.Int64 no_enum key = key
class_key (kind.Text bound) no_enum key = key
class_key (kind.Binary bound) no_enum key = absurd key
class_key (kind.Enum enumeration) no_enum key = absurd (no_enum tt)

-- byte lists are joined to byte lists alone
under_no_binary : (u : Under) → under_kind u ≡ kind.Binary None → ⊥
under_no_binary under.Byte is = cc
under_no_binary under.Int16 is = cc
under_no_binary under.Int32 is = cc
under_no_binary under.Int64 is = cc

pub class_binary : (k : Kind) → class_of k ≡ kind.Binary None → IsBinary k × ¬ IsEnum k
unfolding class_of
class_binary kind.Boolean is = cc
class_binary kind.Byte is = cc
class_binary kind.Int16 is = cc
class_binary kind.Int32 is = cc
class_binary kind.Int64 is = cc
class_binary (kind.Text bound) is = cc
class_binary (kind.Binary bound) is = (tt, λ enumeration. enumeration)
class_binary (kind.Enum enumeration) is = absurd (under_no_binary enumeration.under is)

pub column_binary : (k : Kind) → without_bound k ≡ kind.Binary None → IsBinary k
column_binary kind.Boolean is = cc
column_binary kind.Byte is = cc
column_binary kind.Int16 is = cc
column_binary kind.Int32 is = cc
column_binary kind.Int64 is = cc
column_binary (kind.Text bound) is = cc
column_binary (kind.Binary bound) is = tt
column_binary (kind.Enum enumeration) is = cc

pub binary_class : (bound : Option _) → class_of (kind.Binary bound) ≡ kind.Binary None
unfolding class_of
binary_class bound = refl

module _ (schema : Schema) where
  -- a property of the class of byte lists is one, and so is a column
  pub binary_prop : (p : PropId) → HasClass schema (prop p) (kind.Binary None) → (k : Kind) × (prop_kind schema.model p ≡ Some k) × IsBinary k
  unfolding HasClass
  binary_prop p has = (has.0.kind, prop_kind_at schema.model p has.0 has.1, (class_binary has.0.kind has.2).0)

  pub binary_column : (t : TableId) (c : ColId) → HasClass schema (col t c) (kind.Binary None) → (k : Kind) × (column_kind schema.store t c ≡ Some k) × IsBinary k
  unfolding HasClass
  binary_column t c has = (has.0.kind, column_kind_at schema.store t c has.0 has.1, column_binary has.0.kind has.2)

  pub class_at : (p : PropId) (declared : Prop) → At schema.model.props p.index declared → HasClass schema (prop p) (class_of declared.kind)
  unfolding HasClass
  class_at p declared here = (declared, here, refl)

  pub at_class : (p : PropId) (k : Kind) (declared : Prop) → At schema.model.props p.index declared → HasClass schema (prop p) k → class_of declared.kind ≡ k
  unfolding HasClass
  at_class p k declared here has = ap (λ (d : Prop). class_of d.kind) (at_once schema.model.props p.index declared has.0 here has.1) ∙ has.2

  module _ (sound : IsSoundSchema schema) where
    -- nothing that is joined to a dependent property is of an enumeration
    pub joined_no_enum : (p q : PropId) → IsDependent schema.model p → Joined schema (prop p) (prop q) → (declared : Prop)
        → At schema.model.props q.index declared → ¬ IsEnum declared.kind
    unfolding IsPaired
    joined_no_enum p q by joins declared here enumeration = ⊎_elim
        (λ (same : prop p ≡ prop q). let is : p ≡ q = cc in (key_class declared.kind (dependent_is schema.model sound.model q (subst (IsDependent schema.model) is by) declared here)).1 enumeration)
        (λ (both : IsPaired schema (prop p) × IsPaired schema (prop q)). written both.1)
        (joined_paired schema (prop p) (prop q) joins)
      where
        written : IsPaired schema (prop q) → ⊥
        written (fragment, pair, mapped, among, same) =
            let barred : WritesNoBarredEnum schema pair = All-contains (WritesNoBarredEnum schema) fragment.pairs pair (sound_fragment schema sound fragment mapped).enums among in
            let Here : PropId → Type 0 = λ one. At schema.model.props one.index declared in
            let J : PropId → Type 0 = λ one. Joined schema (prop p) (prop one) in
            barred declared (subst Here (sym same) here) enumeration (prop p, by, inr (subst J (sym same) joins))

    -- it is a whole number or a text too
    pub joined_key_kind : (p q : PropId) → IsDependent schema.model p → Joined schema (prop p) (prop q) → (declared : Prop)
        → At schema.model.props q.index declared → IsKeyKind declared.kind
    joined_key_kind p q by joins declared here =
        let found = dependent_kind schema.model sound.model p by in
        let class = (joined_class schema sound (prop p) (prop q) joins (class_of found.0.kind)).0 (class_at p found.0 found.1) in
        let is : class_of declared.kind ≡ class_of found.0.kind = at_class q (class_of found.0.kind) declared here class in
        class_key declared.kind (joined_no_enum p q by joins declared here) (subst IsKeyKind (sym is) (key_class found.0.kind found.2).0)
