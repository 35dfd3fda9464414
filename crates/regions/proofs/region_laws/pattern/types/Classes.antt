-- What is joined has one kind, bounds aside; and what tells another entity is neither a flag nor of an enumeration.
use Rattle.std.proofs.Common.{◌≡◌, ◌≢◌, ◌⊎◌, ⊎_elim, inr, ◌++◌, map, Contains, refl, sym, ap, subst, ◌∙◌}
use Rattle.std.proofs.lemmas.List.Elements.{All-contains, Contains-append_left, Contains-append_right}
use Rattle.std.proofs.lemmas.Option.{slice_get_within}
use Rattle.member_groups.specs.Tested.{IsMember}
use Rattle.emc_base.specs.declared.value.Kind.TheVariants as kind
use Rattle.emc_base.proofs.Lists.{at_once}
use Rattle.emc_base.proofs.Mapped.{contains_map}
use Rattle.emc_base.proofs.Numbered.{map_contains}
use Rattle.round_trip.specs.Words.{TableId, ColId, PropId, Kind, Prop, LinkFragment, Pair, Schema, At, key_props}
use Rattle.round_trip.specs.FailsAt.{IsHostedAt}
use Rattle.round_trip.specs.soundness.mappings.Fragments.{WritesToFitting}
use Rattle.round_trip.specs.soundness.models.Inheritance.{IsKeyProp}
use Rattle.round_trip.specs.soundness.mappings.Joined.{HostsPartner, IsDependent, Joined, Member, TellsOther, WritesNoBarredEnum, prop, col}
use Rattle.round_trip.specs.soundness.Kinds.{IsEnum, IsKeyKind, without_bound}
use Rattle.round_trip.specs.soundness.Lookups.{columns_of}
use Rattle.round_trip.specs.soundness.mappings.Mappings.{HasPairIds, IsSoundSchema}
use Rattle.round_trip.proofs.Lookups.{assoc_of}
use Rattle.round_trip.proofs.Classes.{HasClass, IsPaired, class_of, joined_class, joined_paired, key_unbound, pair_class}
use Rattle.schema_laws.proofs.sound_demand.Fitting.{link_ids, sound_fragment, sound_link}
use Rattle.schema_laws.specs.state_demand.Owners.{props_in}
use Rattle.schema_laws.proofs.sound_types.Dependent.{dependent_kind}
use Rattle.schema_laws.proofs.sound_types.Inherited.{key_prop}

-- a kind of keys is no enumeration, and its class is one of keys
key_class : (k : Kind) → IsKeyKind (without_bound k) → (class_of k ≡ without_bound k) × ¬ IsEnum k
unfolding class_of
key_class kind.Boolean key = absurd key
key_class kind.Byte key = absurd key
key_class kind.Int16 key = (refl, λ enumeration. enumeration)
key_class kind.Int32 key = (refl, λ enumeration. enumeration)
key_class kind.Int64 key = (refl, λ enumeration. enumeration)
key_class (kind.Text bound) key = (refl, λ enumeration. enumeration)
key_class (kind.Binary bound) key = absurd key
key_class (kind.Enum enumeration) key = absurd key

no_flag : (k : Kind) → IsKeyKind (class_of k) → k ≢ kind.Boolean
unfolding class_of
no_flag kind.Boolean key same = key
no_flag kind.Byte key same = absurd key
no_flag kind.Int16 key same = cc
no_flag kind.Int32 key same = cc
no_flag kind.Int64 key same = cc
no_flag (kind.Text bound) key same = cc
no_flag (kind.Binary bound) key same = cc
no_flag (kind.Enum enumeration) key same = cc

module _ (schema : Schema) where
  module _ (sound : IsSoundSchema schema) where
    -- what tells another entity is of a class of keys
    record HasKeyClass (member : Member) : Type 0 where
      class : Kind
      of_key : IsKeyKind class
      has : HasClass schema member class

    -- a pair at an end writes a property of a key
    end_class : (t : TableId) (c : ColId) (fragment : LinkFragment) → Contains schema.mapping.links fragment → fragment.table ≡ t → (pair : Pair)
        → Contains (fragment.first ++ fragment.second) pair → pair.col ≡ c → IsKeyProp schema.model pair.prop → HasKeyClass (col t c)
    unfolding HasClass
    end_class t c fragment mapped to pair among at_col key =
        let assoc = assoc_of schema sound fragment mapped in
        let is = sound_link schema sound fragment mapped assoc.0 assoc.1 in
        let both = fragment.first ++ fragment.second in
        let class = key_class key.declared.kind (key_unbound key.declared.kind key.kind) in
        let here : HasClass schema (col fragment.table pair.col) (without_bound key.declared.kind) =
        (pair_class schema fragment.table pair (All-contains (HasPairIds schema fragment.table) both pair (link_ids schema sound fragment mapped).pairs among)
        (All-contains (WritesToFitting schema fragment.table) both pair is.kinds among) (without_bound key.declared.kind)).0 (key.declared, key.is_declared, class.0) in
        let P : TableId → ColId → Type 0 = λ u d. HasClass schema (col u d) (without_bound key.declared.kind) in
        record {
          class = without_bound key.declared.kind;
          of_key = key_unbound key.declared.kind key.kind;
          has = subst (λ u. P u c) to (subst (λ d. P fragment.table d) at_col here);
        }

    partner_class : (t : TableId) (c : ColId) → HostsPartner schema t c → HasKeyClass (col t c)
    partner_class t c by =
        let fragment : LinkFragment = by.fragment in
        let assoc = assoc_of schema sound fragment by.is_fragment in
        let is = sound_link schema sound fragment by.is_fragment assoc.0 assoc.1 in
        let column : Pair → ColId = λ pair. pair.col in
        ⊎_elim
        (λ (this : IsHostedAt schema t fragment.first × Contains (map column fragment.second) c).
        let found = map_contains column fragment.second c this.1 in
        end_class t c fragment by.is_fragment by.to_table found.0 (Contains-append_right fragment.first fragment.second found.0 found.1) found.2
        (key_prop schema.model sound.model found.0.prop assoc.0.second.ty
        (All-contains (Contains (key_props schema.model assoc.0.second.ty)) (props_in fragment.second) found.0.prop
        is.second.only (contains_map (λ (pair : Pair). pair.prop) fragment.second found.0 found.1))))
        (λ (that : IsHostedAt schema t fragment.second × Contains (map column fragment.first) c).
        let found = map_contains column fragment.first c that.1 in
        end_class t c fragment by.is_fragment by.to_table found.0 (Contains-append_left fragment.first fragment.second found.0 found.1) found.2
        (key_prop schema.model sound.model found.0.prop assoc.0.first.ty
        (All-contains (Contains (key_props schema.model assoc.0.first.ty)) (props_in fragment.first) found.0.prop
        is.first.only (contains_map (λ (pair : Pair). pair.prop) fragment.first found.0 found.1))))
        by.partner

    tells_class : (source : Member) → TellsOther schema source → HasKeyClass source
    unfolding HasClass
    tells_class (prop p) by =
        let found = dependent_kind schema.model sound.model p by in
        let key = key_unbound found.0.kind found.2 in
        record { class = without_bound found.0.kind; of_key = key; has = (found.0, found.1, (key_class found.0.kind key).0) }
    tells_class (col t c) by = partner_class t c by

    -- a property that is joined to such is no flag
    pub joined_no_flag : (source : Member) → TellsOther schema source → (p : PropId) (declared : Prop) → At schema.model.props p.index declared
        → (source ≡ prop p) ⊎ Joined schema source (prop p) → declared.kind ≢ kind.Boolean
    unfolding HasClass
    joined_no_flag source tells p declared here with_ =
        let of : HasKeyClass source = tells_class source tells in
        let has : HasClass schema (prop p) of.class = ⊎_elim
        (λ (same : source ≡ prop p). subst (λ m. HasClass schema m of.class) same of.has)
        (λ (joins : Joined schema source (prop p)). (joined_class schema sound source (prop p) joins of.class).0 of.has) with_ in
        let class_is : class_of declared.kind ≡ of.class = ap (λ (d : Prop). class_of d.kind) (at_once schema.model.props p.index declared has.0 here has.1) ∙ has.2 in
        no_flag declared.kind (subst IsKeyKind (sym class_is) of.of_key)

    -- a dependent property is of no enumeration
    own_no_enum : (source : Member) → TellsOther schema source → (p : PropId) (declared : Prop) → At schema.model.props p.index declared → source ≡ prop p → ¬ IsEnum declared.kind
    own_no_enum (prop q) by p declared here same enumeration =
        let is : q ≡ p = cc in
        let found = dependent_kind schema.model sound.model p (subst (IsDependent schema.model) is by) in
        let one : found.0 ≡ declared = at_once schema.model.props p.index found.0 declared found.1 here in
        let P : Prop → Type 0 = λ d. IsKeyKind d.kind in
        (key_class declared.kind (key_unbound declared.kind (subst P one found.2))).1 enumeration
    own_no_enum (col t c) by p declared here same enumeration = let never : col t c ≡ prop p = same in cc

    -- nor is a property that is joined to what tells another entity
    pub joined_no_enum : (source : Member) → TellsOther schema source → (p : PropId) (declared : Prop) → At schema.model.props p.index declared
        → (source ≡ prop p) ⊎ Joined schema source (prop p) → ¬ IsEnum declared.kind
    unfolding IsPaired
    joined_no_enum source tells p declared here with_ enumeration = ⊎_elim
        (λ (same : source ≡ prop p). own_no_enum source tells p declared here same enumeration)
        (λ (joins : Joined schema source (prop p)). ⊎_elim
        (λ (same : source ≡ prop p). own_no_enum source tells p declared here same enumeration)
        (λ (both : IsPaired schema source × IsPaired schema (prop p)). written joins both.1)
        (joined_paired schema source (prop p) joins))
        with_
      where
        written : Joined schema source (prop p) → IsPaired schema (prop p) → ⊥
        written joins (fragment, pair, mapped, among, same) =
            let barred : WritesNoBarredEnum schema pair = All-contains (WritesNoBarredEnum schema) fragment.pairs pair (sound_fragment schema sound fragment mapped).enums among in
            let Here : PropId → Type 0 = λ q. At schema.model.props q.index declared in
            let J : PropId → Type 0 = λ q. Joined schema source (prop q) in
            barred declared (subst Here (sym same) here) enumeration (source, tells, inr (subst J (sym same) joins))

    -- it is a property or a column
    pub tells_member : (source : Member) → TellsOther schema source → IsMember schema source
    unfolding HasClass
    tells_member (prop p) by = let found = dependent_kind schema.model sound.model p by in slice_get_within schema.model.props p.index found.0 found.1
    tells_member (col t c) by = let found = (tells_class (col t c) by).has in slice_get_within (columns_of schema.store t) c.index found.0 found.1
