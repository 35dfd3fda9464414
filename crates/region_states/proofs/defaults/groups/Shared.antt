-- Properties of one group that are of no enumeration have the same free values.
use Rattle.std.proofs.Common.{◌≡◌, inl, inr, ◌↔◌, List, filter, slice_get, unwrap_or, Contains, Bool, true, false, not, Decides, refl, sym, ap, subst, ◌∙◌}
use Rattle.std.specs.List.{list_any}
use Rattle.std.proofs.lemmas.Bool.Decides.{not_from_Decides}
use Rattle.std.proofs.lemmas.Option.{slice_get_within}
use Rattle.emc_base.proofs.Lists.{at_once}
use Rattle.emc_base.specs.declared.value.Kind.TheVariants as kind
use Rattle.round_trip.specs.Words.{PropId, Value, Null, Kind, Prop, At}
use Rattle.round_trip.specs.soundness.mappings.Joined.{Joined, prop}
use Rattle.round_trip.specs.soundness.mappings.Joined as joined
use Rattle.round_trip.specs.soundness.Kinds.{IsEnum}
use Rattle.round_trip.proofs.Classes.{class_of, joined_class}
use Rattle.member_groups.specs.Tested.{AreInOneGroup}
use Rattle.member_groups.proofs.Constants.{joined_constant}
use Rattle.schema_laws.specs.state_demand.Selecting.{same_value}
use Rattle.regions.specs.region_laws.IsBasis.{IsBasis}
use Rattle.regions.specs.Basis.{Basis}
use Rattle.region_states.specs.defaults.Candidates.{candidates, first_free, free_values, is_free, next_free, AreGrouped}
use Rattle.region_states.proofs.defaults.groups.Classes.{at_class, class_at}
use Rattle.region_states.proofs.defaults.Lists.{Decides-constant}

-- tests of facts that follow from one another are one
same_test : (a b : Bool) (P Q : Type 0) → Decides a P → Decides b Q → P ↔ Q → a ≡ b
same_test true true P Q is_p is_q both = refl
same_test true false P Q is_p is_q both = absurd (not_from_Decides false is_q refl (both.0 (is_p.0 refl)))
same_test false true P Q is_p is_q both = absurd (not_from_Decides false is_p refl (both.1 (is_q.0 refl)))
same_test false false P Q is_p is_q both = refl

-- what is free tells no more of the constants than which they are
free_same : (k : Kind) (one two : List Value) → ((v : Value) → Contains one v ↔ Contains two v) → free_values k one ≡ free_values k two
free_same k one two both = by k
  where
    tests : (v : Value) → is_free one v ≡ is_free two v
    tests v = ap not (same_test (list_any (same_value v) one) (list_any (same_value v) two) (Contains one v) (Contains two v)
        (Decides-constant one v) (Decides-constant two v) (both v))

    left : (k : Kind) → filter (is_free one) (candidates k) ≡ filter (is_free two) (candidates k)
    left k i = filter (λ v. tests v i) (candidates k)

    by : (k : Kind) → free_values k one ≡ free_values k two
    by kind.Boolean = refl
    by kind.Byte = left kind.Byte
    by kind.Int16 = left kind.Int16
    by kind.Int32 = left kind.Int32
    by kind.Int64 = left kind.Int64
    by (kind.Text bound) = left (kind.Text bound)
    by (kind.Binary bound) = left (kind.Binary bound)
    by (kind.Enum enumeration) = refl

-- nor of the bound
unbound_same : (k : Kind) (constants : List Value) → ¬ IsEnum k → free_values k constants ≡ free_values (class_of k) constants
unfolding class_of
unbound_same kind.Boolean constants no_enum = refl
unbound_same kind.Byte constants no_enum = refl
unbound_same kind.Int16 constants no_enum = refl
unbound_same kind.Int32 constants no_enum = refl
unbound_same kind.Int64 constants no_enum = refl
unbound_same (kind.Text bound) constants no_enum = refl
unbound_same (kind.Binary bound) constants no_enum = refl
unbound_same (kind.Enum enumeration) constants no_enum = absurd (no_enum tt)

module _ (basis : Basis) (is : IsBasis basis) (p q : PropId) (declared other : Prop) (grouped : AreGrouped basis p q declared other) where
  abbrev here : At basis.schema.model.props p.index declared
  here = grouped.is_declared

  abbrev there : At basis.schema.model.props q.index other
  there = grouped.other_declared

  constants_same : Joined basis.schema (prop p) (prop q) → (v : Value) → Contains (basis.constants (prop p)) v ↔ Contains (basis.constants (prop q)) v
  constants_same joins v =
      let of_p = (is.constants (prop p) (slice_get_within basis.schema.model.props p.index declared here)).each v in
      let of_q = (is.constants (prop q) (slice_get_within basis.schema.model.props q.index other there)).each v in (
        λ has. of_q.1 (joined_constant basis.schema (prop p) (prop q) (joined.back (prop p) (prop q) joins) v (of_p.0 has)),
        λ has. of_p.1 (joined_constant basis.schema (prop q) (prop p) joins v (of_q.0 has)),
      )

  joined_free_values : Joined basis.schema (prop p) (prop q)
      → free_values declared.kind (basis.constants (prop p)) ≡ free_values other.kind (basis.constants (prop q))
  joined_free_values joins =
      let class = (joined_class basis.schema is.sound (prop p) (prop q) joins (class_of declared.kind)).0 (class_at basis.schema p declared here) in
      let same : class_of other.kind ≡ class_of declared.kind = at_class basis.schema q (class_of declared.kind) other there class in
      unbound_same declared.kind (basis.constants (prop p)) grouped.no_enum
      ∙ ap (λ k. free_values k (basis.constants (prop p))) (sym same)
      ∙ free_same (class_of other.kind) (basis.constants (prop p)) (basis.constants (prop q)) (constants_same joins)
      ∙ sym (unbound_same other.kind (basis.constants (prop q)) grouped.other_no_enum)

  shared : AreInOneGroup basis.schema (prop p) (prop q) → free_values declared.kind (basis.constants (prop p)) ≡ free_values other.kind (basis.constants (prop q))
  shared (inl same) =
      let is_q : p ≡ q = cc in
      let At_ : PropId → Type 0 = λ r. At basis.schema.model.props r.index declared in
      let one : declared ≡ other = at_once basis.schema.model.props q.index declared other (subst At_ is_q here) there in
      λ i. free_values (one i).kind (basis.constants (prop (is_q i)))
  shared (inr joins) = joined_free_values joins

  pub first_shared : first_free declared.kind (basis.constants (prop p)) ≡ first_free other.kind (basis.constants (prop q))
  first_shared = ap (λ values. unwrap_or (slice_get values 0) Null) (shared grouped.in_one_group)

  pub next_shared : next_free declared.kind (basis.constants (prop p)) ≡ next_free other.kind (basis.constants (prop q))
  next_shared = ap (λ values. unwrap_or (slice_get values 1) Null) (shared grouped.in_one_group)
