-- The groups of a mapping, as they are told: which properties and columns are in one group, whether it is tested, and its constants.
-- Source: the groups of properties and columns of this project's profile, over MSL version 3, ScalarProperty and Condition.
use Rattle.std.specs.Prelude.{◌≡◌, ◌↔◌, List, slice_get, Option, Some, Bool, IsSome, IsTrue}
use Rattle.std.specs.BTreeSet.{contains}
use Rattle.std.specs.Ordering.{nat_cmp}
use Rattle.round_trip.specs.Words.{GroupId, Value, Schema}
use Rattle.round_trip.specs.soundness.mappings.Joined.{Member}
use Rattle.member_groups.specs.declared.groups.MemberGroups.{MemberGroups}
pub use Rattle.member_groups.specs.group_constants.Constants.{ListsJust}
use Rattle.member_groups.specs.group_numbers.Numbers.{number_in}
use Rattle.member_groups.specs.Tested.{AreInOneGroup, IsConstant, IsMember, IsTested}

-- the group of a property or a column
abbrev pub group_in : MemberGroups → Member → Option GroupId
group_in groups = number_in groups.numbers

-- the constants of a group
abbrev pub constants_in : MemberGroups → GroupId → Option (List Value)
constants_in groups group = slice_get groups.constants group.index

-- whether a group is tested
abbrev pub is_tested_in : MemberGroups → GroupId → Bool
is_tested_in groups group = contains nat_cmp groups.tested group.index

-- they are the groups of the schema: each property and each column has one, two have the same just where they are in one group, and
-- each has just its constants, in rising order, and is tested just where it is so
pub record TellsMemberGroups (schema : Schema) (groups : MemberGroups) : Type 0 where
  pub some : (member : Member) → IsMember schema member → IsSome (group_in groups member)
  pub only : (member : Member) → IsSome (group_in groups member) → IsMember schema member
  pub same : (one other : Member) → IsMember schema one → IsMember schema other → (group_in groups one ≡ group_in groups other) ↔ AreInOneGroup schema one other
  pub constants : (member : Member) (group : GroupId) → group_in groups member ≡ Some group
      → (list : List Value) × (constants_in groups group ≡ Some list) × ListsJust (IsConstant schema member) list
  pub tested : (member : Member) (group : GroupId) → group_in groups member ≡ Some group → IsTrue (is_tested_in groups group) ↔ IsTested schema member
