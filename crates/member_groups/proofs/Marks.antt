-- What kinds of properties make tested, and which numbers they have.
use Rattle.std.proofs.Common.{◌≡◌, ◌⊎◌, ◌==◌, ◌||◌, inl, inr, ℕ, length, Option, Some, None, Bool, true, false, refl, sym, subst, ◌∙◌}
use Rattle.std.specs.Bool.{then_some}
use Rattle.std.specs.BTreeSet.{BTreeSet, contains}
use Rattle.std.specs.Ordering.{nat_cmp}
use Rattle.std.specs.Prelude.{option_and_then}
use Rattle.std.proofs.lemmas.Bool.Decides.{Decides-eqb}
use Rattle.emc_base.specs.declared.value.EnumKind.{EnumKind}
use Rattle.emc_base.specs.declared.value.Kind.TheVariants.{Byte, Int16, Int32, Int64, Boolean, Text, Binary, Enum}
use Rattle.round_trip.specs.Words.{GroupId, Kind, PropId}
use Rattle.round_trip.specs.soundness.mappings.Joined.{prop}
use Rattle.member_groups.specs.declared.group_numbers.numbered.Numbered.{Numbered}
use Rattle.member_groups.specs.mapping_asks.Adding.{HasKey}
use Rattle.member_groups.specs.group_numbers.Joint.{IsJointAt, joint_in}
use Rattle.member_groups.specs.Causes.{makes_tested, mark_by}

-- one of two tests says yes
either_true : (a b : Bool) → (a || b) ≡ true → (a ≡ true) ⊎ (b ≡ true)
either_true true b is = inl refl
either_true false b is = inr is

or_true : (a b : Bool) → (a ≡ true) ⊎ (b ≡ true) → (a || b) ≡ true
or_true true b either = refl
or_true false b (inl never) = absurd cc
or_true false b (inr is) = is

-- the kind is an enumeration that shares its group or has one number
abbrev pub IsTestedEnum : Kind → Bool → Type 0
IsTestedEnum kind is_shared = (enumeration : EnumKind) × (kind ≡ Enum enumeration) × ((is_shared ≡ true) ⊎ (length enumeration.members ≡ 1))

-- just such kinds make tested
pub kind_told : (kind : Kind) (is_shared : Bool) → makes_tested kind is_shared ≡ true → IsTestedEnum kind is_shared
kind_told (Enum enumeration) is_shared is = (
  enumeration,
  refl,
  elim (either_true is_shared (length enumeration.members == 1) is) [
    | inl shared ↦ inl shared
    | inr one ↦ inr ((Decides-eqb (length enumeration.members) 1).0 one)
  ],
)
kind_told Byte is_shared is = absurd cc
kind_told Int16 is_shared is = absurd cc
kind_told Int32 is_shared is = absurd cc
kind_told Int64 is_shared is = absurd cc
kind_told Boolean is_shared is = absurd cc
kind_told (Text bound) is_shared is = absurd cc
kind_told (Binary bound) is_shared is = absurd cc

pub kind_from : (kind : Kind) (is_shared : Bool) → IsTestedEnum kind is_shared → makes_tested kind is_shared ≡ true
kind_from kind is_shared (enumeration, is, either) =
    let P : Kind → Type 0 = λ one. makes_tested one is_shared ≡ true in
    subst P (sym is) (or_true is_shared (length enumeration.members == 1) (elim either [
      | inl shared ↦ inl shared
      | inr one ↦ inr ((Decides-eqb (length enumeration.members) 1).1 one)
    ]))

module _ (numbered : Numbered) (twice shared : BTreeSet ℕ) (p : PropId) (kind : Kind) (k : ℕ) where
  -- the property is written twice, or its kind makes its group tested
  abbrev pub HasCause : Type 0
  HasCause = HasKey twice p.index ⊎ (makes_tested kind (contains nat_cmp shared k) ≡ true)

  -- just where a property has a cause it marks its group
  pub mark_told : mark_by numbered twice shared p kind ≡ Some k → IsJointAt numbered (prop p) k × HasCause
  mark_told is = by (joint_in numbered (prop p)) refl is
    where
      tells : (group : GroupId) (test : Bool) → joint_in numbered (prop p) ≡ Some group
          → (contains nat_cmp twice p.index || makes_tested kind (contains nat_cmp shared group.index)) ≡ test
          → then_some test group.index ≡ Some k → IsJointAt numbered (prop p) k × HasCause
      tells group false at test here = absurd (let never : None ≡ Some k = here in cc)
      tells group true at test here =
          let same : group.index ≡ k = cc in
          let Cause : ℕ → Type 0 = λ n. HasKey twice p.index ⊎ (makes_tested kind (contains nat_cmp shared n) ≡ true) in (
            at ∙ (λ i. Some (record { index = same i })),
            subst Cause same (either_true (contains nat_cmp twice p.index) (makes_tested kind (contains nat_cmp shared group.index)) test),
          )

      by : (found : Option GroupId) → joint_in numbered (prop p) ≡ found
          → option_and_then (λ group. then_some (contains nat_cmp twice p.index || makes_tested kind (contains nat_cmp shared group.index)) group.index) found ≡ Some k
          → IsJointAt numbered (prop p) k × HasCause
      by None at here = absurd (let never : None ≡ Some k = here in cc)
      by (Some group) at here = tells group (contains nat_cmp twice p.index || makes_tested kind (contains nat_cmp shared group.index)) at refl here

  pub mark_from : IsJointAt numbered (prop p) k → HasCause → mark_by numbered twice shared p kind ≡ Some k
  mark_from at cause =
      let P : Option GroupId → Type 0 = λ found.
      option_and_then (λ group. then_some (contains nat_cmp twice p.index || makes_tested kind (contains nat_cmp shared group.index)) group.index) found ≡ Some k in
      let Q : Bool → Type 0 = λ test. then_some test k ≡ Some k in
      subst P (sym at) (subst Q (sym (or_true (contains nat_cmp twice p.index) (makes_tested kind (contains nat_cmp shared k)) cause)) refl)
