-- Groups, as a basis tells them: which are tested, which constants they have, and which have none.
use Rattle.std.proofs.Common.{◌≡◌, ◌⊎◌, ⊎_elim, inl, inr, ◌==◌, IsTrue, Contains, refl, sym, ap, subst}
use Rattle.std.proofs.lemmas.Bool.Decides.{Decides-eqb, Decides-like}
use Rattle.std.proofs.lemmas.List.Elements.{All-contains}
use Rattle.std.proofs.lemmas.Option.{slice_get_within}
use Rattle.emc_base.proofs.facts.Standing.{none_stands}
use Rattle.round_trip.specs.Words.{TableId, ColId, PropId, Value, Cond, Schema, key_columns}
use Rattle.edm_types.specs.declared.mapping.CondOn.TheVariants as on
use Rattle.edm_types.specs.declared.mapping.Test.TheVariants.{Equals}
use Rattle.round_trip.specs.soundness.mappings.Joined.{ComparesNoBarred, HostsPartner, IsBarred, IsNoKey, Joined, Member, TellsOther, col, member_of, prop}
use Rattle.round_trip.specs.soundness.mappings.Joined as joined
use Rattle.round_trip.specs.soundness.Kinds.{IsEnum}
use Rattle.round_trip.proofs.Lookups.{assoc_of}
use Rattle.member_groups.specs.Tested.{AreInOneGroup, HasCondition, IsAsked, IsComparedWith, IsConstant, IsImplied, IsMember, IsTested, IsWrittenTo}
use Rattle.member_groups.proofs.joined_groups.Grouping.{joined_free}
use Rattle.member_groups.proofs.Numbering.{free_member}
use Rattle.schema_laws.proofs.sound_demand.Fitting.{sound_fragment, sound_link}
use Rattle.schema_laws.proofs.sound_demand.owners.Owned.{table_or_not}
use Rattle.schema_laws.proofs.state_demand.writings.Decisions.{so_or_not}
use Rattle.schema_laws.proofs.state_demand.lists.Lists.{any_of}
use Rattle.regions.specs.region_laws.IsBasis.{IsBasis}
use Rattle.regions.specs.Basis.{Basis}
use Rattle.regions.specs.region_laws.pattern.Plain.{IsPlain}
use Rattle.regions.proofs.region_laws.pattern.types.Classes.{joined_no_enum, joined_no_flag, tells_member}

column_or_not : (c d : ColId) → (c ≡ d) ⊎ ¬ (c ≡ d)
column_or_not c d = so_or_not (c.index == d.index)
    (Decides-like (c.index == d.index) (λ same k. record { index = same k }) (λ same. ap (λ (one : ColId). one.index) same) (Decides-eqb c.index d.index))

module _ (basis : Basis) (is : IsBasis basis) where
  abbrev schema : Schema
  schema = basis.schema

  -- what is tested, as it is told
  pub told_tested : (member : Member) → IsNoKey schema member → IsTested schema member → IsTrue (basis.tested member)
  told_tested member free tested = (is.tested member (free_member schema member free)).1 tested

  pub is_tested : (member : Member) → IsMember schema member → IsTrue (basis.tested member) → IsTested schema member
  is_tested member here told = (is.tested member here).0 told

  -- what is asked or implied of a column tests its group
  pub asked_tested : (t : TableId) (c : ColId) → IsNoKey schema (col t c) → IsAsked schema (col t c) → IsTested schema (col t c)
  asked_tested t c free asked = (col t c, joined.same (col t c) free, inl asked)

  pub implied_tested : (t : TableId) (c : ColId) → IsNoKey schema (col t c) → IsImplied schema (col t c) → IsTested schema (col t c)
  implied_tested t c free implied = (col t c, joined.same (col t c) free, inr implied)

  -- and that of all that is joined to it
  pub joined_tested : (one other : Member) → Joined schema one other → IsTested schema one → IsTested schema other
  joined_tested one other joins (third, to, makes) = (third, joined.chain other one third (joined.back one other joins) to, makes)

  -- a condition on a column
  pub asked_by : (t : TableId) (c : ColId) (cond : Cond) → HasCondition schema t cond → cond.on ≡ on.Col c → IsAsked schema (col t c)
  asked_by t c cond has on_col = (t, cond, has, ap (member_of t) on_col)

  -- a constant with which it compares is one of what is joined
  pub compared_constant : (p : PropId) (t : TableId) (c : ColId) → Joined schema (prop p) (col t c) → (cond : Cond) → HasCondition schema t cond → cond.on ≡ on.Col c
      → (constant : Value) → cond.test ≡ Equals constant → Contains (basis.constants (prop p)) constant
  compared_constant p t c joins cond has on_col constant equals =
      let by : IsComparedWith schema (col t c) constant = (t, cond, has, ap (member_of t) on_col, equals) in
      let free : IsNoKey schema (prop p) = (joined_free schema (prop p) (col t c) joins).0 in
      ((is.constants (prop p) (free_member schema (prop p) free)).each constant).1 (inl (col t c, joins, by))

  -- no Value condition is on a barred member
  pub no_barred : (t : TableId) (cond : Cond) → HasCondition schema t cond → (constant : Value) → cond.test ≡ Equals constant → ¬ IsBarred schema (member_of t cond.on)
  no_barred t cond (inl (fragment, mapped, to, among)) constant equals =
      let P : TableId → Type 0 = λ u. ComparesNoBarred schema u cond in
      (let here : P fragment.table = All-contains (ComparesNoBarred schema fragment.table) fragment.conds cond (sound_fragment schema is.sound fragment mapped).barred among in
      subst P to here) constant equals
  no_barred t cond (inr (fragment, mapped, to, among)) constant equals =
      let P : TableId → Type 0 = λ u. ComparesNoBarred schema u cond in
      let assoc = assoc_of schema is.sound fragment mapped in
      (let here : P fragment.table = All-contains (ComparesNoBarred schema fragment.table) fragment.conds cond
      (sound_link schema is.sound fragment mapped assoc.0 assoc.1).barred among in
      subst P to here) constant equals

  -- no condition is on a column of a primary key
  pub no_key_asked : (t : TableId) (c : ColId) (cond : Cond) → HasCondition schema t cond → cond.on ≡ on.Col c → ¬ Contains (key_columns schema.store t) c
  no_key_asked t c cond (inl (fragment, mapped, to, among)) on_col key =
      let P : TableId → Type 0 = λ u. Contains (key_columns schema.store u) c in
      (sound_fragment schema is.sound fragment mapped).no_key_column c (any_of (λ (one : Cond). one.on ≡ on.Col c) fragment.conds cond among on_col)
      (subst P (sym to) key)
  no_key_asked t c cond (inr (fragment, mapped, to, among)) on_col key =
      let P : TableId → Type 0 = λ u. Contains (key_columns schema.store u) c in
      let assoc = assoc_of schema is.sound fragment mapped in
      (sound_link schema is.sound fragment mapped assoc.0 assoc.1).no_key_column c (any_of (λ (one : Cond). one.on ≡ on.Col c) fragment.conds cond among on_col)
      (subst P (sym to) key)

  -- a column that hosts a partner's key is compared with nothing
  pub partner_uncompared : (t : TableId) (c : ColId) → HostsPartner schema t c → (cond : Cond) → HasCondition schema t cond → cond.on ≡ on.Col c → (constant : Value)
      → cond.test ≡ Equals constant → ⊥
  partner_uncompared t c hosts cond has on_col constant equals =
      let P : Member → Type 0 = λ member. IsBarred schema member in
      no_barred t cond has constant equals (subst P (sym (ap (member_of t) on_col)) (col t c, hosts, inl refl))

  -- a property that isn't tested is written to one column
  pub written_once : (p : PropId) → IsNoKey schema (prop p) → ¬ IsTrue (basis.tested (prop p)) → (t u : TableId) (c d : ColId)
      → IsWrittenTo schema p (col t c) → IsWrittenTo schema p (col u d) → (t ≡ u) × (c ≡ d)
  written_once p free untested t u c d one other = ⊎_elim
      (λ (same : col t c ≡ col u d). ((let tables : t ≡ u = cc in tables), (let cols : c ≡ d = cc in cols)))
      (λ (twice : ¬ (col t c ≡ col u d)).
      absurd (untested (told_tested (prop p) free (prop p, joined.same (prop p) free, inr (inl (col t c, col u d, one, other, twice))))))
      same_or_not
    where
      same_or_not : (col t c ≡ col u d) ⊎ ¬ (col t c ≡ col u d)
      same_or_not = ⊎_elim
          (λ (tables : t ≡ u). ⊎_elim
          (λ (cols : c ≡ d). inl (λ k. col (tables k) (cols k)))
          (λ (cols : ¬ (c ≡ d)). inr (λ same. cols (let is : c ≡ d = cc in is)))
          (column_or_not c d))
          (λ (tables : ¬ (t ≡ u)). inr (λ same. tables (let is : t ≡ u = cc in is)))
          (table_or_not t u)

  -- the group of what tells another entity
  module _ (source : Member) (tells : TellsOther schema source) where
    source_here : IsMember schema source
    source_here = tells_member schema is.sound source tells

    compared_never : (value : Value) → (other : Member) → Joined schema source other → IsComparedWith schema other value → ⊥
    compared_never value other joins (t, cond, has, is_member, equals) =
        let P : Member → Type 0 = λ member. IsBarred schema member in
        no_barred t cond has value equals (subst P (sym is_member) (source, tells, inr joins))

    constant_never : (value : Value) → IsConstant schema source value → ⊥
    constant_never value (inl (other, joins, compared)) = compared_never value other joins compared
    constant_never value (inr (tested, (p, enumeration, number, joins, of_enum, among, same))) =
        let K : _ → Type 0 = IsEnum in
        joined_no_enum schema is.sound source tells p of_enum.0 of_enum.1 (inr joins) (subst K (sym of_enum.2) tt)

    turned : (p : PropId) → AreInOneGroup schema (prop p) source → (source ≡ prop p) ⊎ Joined schema source (prop p)
    turned p (inl same) = inl (sym same)
    turned p (inr joins) = inr (joined.back (prop p) source joins)

    pub is_plain : IsPlain basis source
    is_plain = record {
      constants = none_stands (basis.constants source) (λ value has. constant_never value (((is.constants source source_here).each value).0 has));
      kinds = λ p declared here same.
          (let one = (is.groups (prop p) source (slice_get_within schema.model.props p.index declared here) source_here).0 same in
          (joined_no_flag schema is.sound source tells p declared here (turned p one), joined_no_enum schema is.sound source tells p declared here (turned p one)));
    }
