-- The constants of groups, by their numbers.
use Rattle.std.specs.Prelude.{◌≡◌, ◌⊎◌, ◌↔◌, ℕ, ◌<◌, ℤ, List, length, Contains, Option, Some, IsTrue}
use Rattle.std.specs.BTreeSet.{BTreeSet, IsEmpty, contains}
use Rattle.std.specs.List.Sorted.{IsStrictlySortedBy}
use Rattle.round_trip.specs.Words.{GroupId, Value, Whole, Kind, EntityModel, Prop, At}
use Rattle.emc_base.specs.Order.{value_cmp}
use Rattle.emc_base.specs.declared.value.Kind.TheVariants as kind
use Rattle.round_trip.specs.soundness.mappings.Joined.{prop}
use Rattle.member_groups.specs.declared.mapping_asks.asks.Ask.{Ask}
use Rattle.member_groups.specs.declared.group_numbers.numbered.Numbered.{Numbered}
use Rattle.member_groups.specs.mapping_asks.Adding.{Adds, Each, EachBelow, HasKey}
use Rattle.member_groups.specs.mapping_asks.Asks.{member_at}
use Rattle.member_groups.specs.group_numbers.Joint.{IsJointAt, joint_in}
use Rattle.member_groups.specs.group_numbers.Numbers.{HoldsEach}

-- the set of a group has the value
abbrev pub HasIn : List (BTreeSet Value) → ℕ × Value → Type 0
HasIn sets entry = (values : BTreeSet Value) × At sets entry.0 values × IsTrue (contains value_cmp values entry.1)

-- the same of one of so many groups
abbrev pub Within : ℕ → (ℕ × Value → Type 0) → ℕ × Value → Type 0
Within count P entry = (entry.0 < count) × P entry

-- just the values of this kind have come to the sets of their groups
pub record AddsIn (P : ℕ × Value → Type 0) (before after : List (BTreeSet Value)) : Type 0 where
  pub size : length after ≡ length before
  pub more : Adds (Within (length before) P) (HasIn before) (HasIn after)

-- so many sets, none of which has a value
abbrev pub AreEmpty : ℕ → List (BTreeSet Value) → Type 0
AreEmpty = HoldsEach (λ i values. IsEmpty values)

-- it is the value with which something of this group is compared
abbrev pub IsComparison : GroupId → Option Value → ℕ × Value → Type 0
IsComparison group constant entry = (entry.0 ≡ group.index) × (constant ≡ Some entry.1)

-- the group of what is asked has the value with which it is compared
abbrev pub Compares : Numbered → Ask → ℕ × Value → Type 0
Compares numbered ask entry = IsJointAt numbered (member_at ask.on) entry.0 × (ask.constant ≡ Some entry.1)

-- it is this value of this group
abbrev pub IsEntry : GroupId → Value → ℕ × Value → Type 0
IsEntry group value entry = entry ≡ (group.index, value)

-- it is this number of this group
abbrev pub IsNumber : GroupId → ℤ → ℕ × Value → Type 0
IsNumber group number entry = entry ≡ (group.index, Whole number)

-- the kind is an enumeration, its group is tested, and it is one of its numbers
abbrev pub NumbersOf : BTreeSet ℕ → GroupId → Kind → ℕ × Value → Type 0
NumbersOf tested group (kind.Enum enumeration) entry = HasKey tested group.index × Each (IsNumber group) enumeration.members entry
NumbersOf tested group _ entry = ⊥

-- the same of the property at this place
abbrev pub NumbersOfProp : EntityModel → Numbered → BTreeSet ℕ → ℕ → ℕ × Value → Type 0
NumbersOfProp model numbered tested i entry = (declared : Prop) × (group : GroupId) × At model.props i declared
    × (joint_in numbered (prop (record { index = i })) ≡ Some group) × NumbersOf tested group declared.kind entry

-- it is a value of a group by what is asked, or by an enumeration
abbrev pub IsValueOf : EntityModel → Numbered → List Ask → BTreeSet ℕ → ℕ × Value → Type 0
IsValueOf model numbered asks tested entry = Each (Compares numbered) asks entry ⊎ EachBelow (NumbersOfProp model numbered tested) (length model.props) entry

-- the list has just the values of the set, in rising order
pub record IsListOf (values : BTreeSet Value) (list : List Value) : Type 0 where
  pub sorted : IsStrictlySortedBy value_cmp list
  pub same : list ≡ values.keys

-- for each set its list
abbrev pub AreListed : List (BTreeSet Value) → List (List Value) → Type 0
AreListed sets = HoldsEach (λ i list. (values : BTreeSet Value) × At sets i values × IsListOf values list) (length sets)

-- the list has just the values of this kind, in rising order
pub record ListsJust (P : Value → Type 0) (list : List Value) : Type 0 where
  pub sorted : IsStrictlySortedBy value_cmp list
  pub each : (value : Value) → Contains list value ↔ P value

-- for each group the list of its values
abbrev pub ListsGroups : EntityModel → Numbered → List Ask → BTreeSet ℕ → List (List Value) → Type 0
ListsGroups model numbered asks tested = HoldsEach (λ k. ListsJust (λ value. IsValueOf model numbered asks tested (k, value))) numbered.numbers.count
