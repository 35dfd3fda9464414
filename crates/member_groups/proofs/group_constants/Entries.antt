-- The values that one thing asked or one property gives its group.
use Rattle.std.proofs.Common.{◌≡◌, ℕ, Option, Some, None, refl, sym, ap, subst, ◌∙◌}
use Rattle.std.proofs.lemmas.Option.{same_Some}
use Rattle.std.specs.BTreeSet.{BTreeSet}
use Rattle.emc_base.specs.declared.value.EnumKind.{EnumKind}
use Rattle.emc_base.specs.declared.value.Kind.TheVariants.{Byte, Int16, Int32, Int64, Boolean, Text, Binary, Enum}
use Rattle.emc_base.proofs.Lists.{at_once}
use Rattle.round_trip.specs.Words.{GroupId, EntityModel, Kind, Prop, Value, At}
use Rattle.round_trip.specs.soundness.mappings.Joined.{prop}
use Rattle.member_groups.specs.mapping_asks.Adding.{Each, HasKey, Tells}
use Rattle.member_groups.specs.declared.group_numbers.numbered.Numbered.{Numbered}
use Rattle.member_groups.specs.group_numbers.Joint.{joint_in}
use Rattle.member_groups.specs.group_constants.Constants.{IsComparison, IsEntry, IsNumber, NumbersOf, NumbersOfProp}

-- a value is just the comparison with it
pub one_compared : (group : GroupId) (constant : Option Value) (value : Value) → constant ≡ Some value → Tells (IsEntry group value) (IsComparison group constant)
one_compared group constant value is entry = (
  λ same. (ap (λ (e : ℕ × Value). e.0) same, is ∙ ap Some (sym (ap (λ (e : ℕ × Value). e.1) same))),
  λ both. (let number = both.0 in let other = sym (same_Some value entry.1 (sym is ∙ both.1)) in λ i. (number i, other i)),
)

-- the numbers of an enumeration at a place, whose group is found
module _ (model : EntityModel) (numbered : Numbered) (tested : BTreeSet ℕ) (n : ℕ) where
  abbrev found : Option GroupId
  found = joint_in numbered (prop (record { index = n }))

  pub one_numbers : (declared : Prop) → At model.props n declared → (group : GroupId) → found ≡ Some group
      → Tells (NumbersOf tested group declared.kind) (NumbersOfProp model numbered tested n)
  one_numbers declared here group is entry = (
    λ some. (declared, group, here, is, some),
    λ by.
        (let P : Prop → Type 0 = λ one. NumbersOf tested group one.kind entry in
        let Q : GroupId → Type 0 = λ one. NumbersOf tested one (by.0).kind entry in
        subst P (at_once model.props n by.0 declared by.2 here) (subst Q (same_Some by.1 group (sym by.3 ∙ is)) by.4)),
  )

  pub no_numbers : found ≡ None → (entry : ℕ × Value) → ¬ NumbersOfProp model numbered tested n entry
  no_numbers none entry by = absurd (let never : None ≡ Some by.1 = sym none ∙ by.3 in cc)

module _ (tested : BTreeSet ℕ) (group : GroupId) (entry : ℕ × Value) where
  -- the numbers of a kind are those of an enumeration in a tested group
  abbrev pub IsOfEnumeration : Kind → Type 0
  IsOfEnumeration kind = (enumeration : EnumKind) × (kind ≡ Enum enumeration) × HasKey tested group.index × Each (IsNumber group) enumeration.members entry

  pub numbers_told : (kind : Kind) → NumbersOf tested group kind entry → IsOfEnumeration kind
  numbers_told (Enum enumeration) (has, some) = (enumeration, refl, has, some)
  numbers_told Byte none = absurd none
  numbers_told Int16 none = absurd none
  numbers_told Int32 none = absurd none
  numbers_told Int64 none = absurd none
  numbers_told Boolean none = absurd none
  numbers_told (Text bound) none = absurd none
  numbers_told (Binary bound) none = absurd none

  pub numbers_from : (kind : Kind) → IsOfEnumeration kind → NumbersOf tested group kind entry
  numbers_from kind (enumeration, is, has, some) = let P : Kind → Type 0 = λ one. NumbersOf tested group one entry in subst P (sym is) (has, some)
