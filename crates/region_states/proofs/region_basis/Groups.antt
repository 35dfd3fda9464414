-- What the told groups give for a property or a column is what the definitions say of it.
use Rattle.std.proofs.Common.{◌≡◌, ◌↔◌, List, [], false, option_and_then, unwrap_or, Option, Some, None, IsSome, IsTrue, refl, sym, subst}
use Rattle.std.specs.Option.{option_map_or}
use Rattle.round_trip.specs.Words.{GroupId, Value, Schema}
use Rattle.round_trip.specs.soundness.mappings.Joined.{Member}
use Rattle.member_groups.specs.MemberGroups.{ListsJust, TellsMemberGroups, constants_in, group_in, is_tested_in}
use Rattle.member_groups.specs.declared.groups.MemberGroups.{MemberGroups}
use Rattle.member_groups.specs.Tested.{IsConstant, IsMember, IsTested}

module _ (schema : Schema) (groups : MemberGroups) (tells : TellsMemberGroups schema groups) (member : Member) (is : IsMember schema member) where
  pub constants_told : ListsJust (IsConstant schema member) (unwrap_or (option_and_then (constants_in groups) (group_in groups member)) [])
  constants_told = by (group_in groups member) refl (tells.some member is)
    where
      by : (found : Option GroupId) → group_in groups member ≡ found → IsSome found → ListsJust (IsConstant schema member) (unwrap_or (option_and_then (constants_in groups) found) [])
      by None at none = absurd cc
      by (Some group) at some =
          let listed = tells.constants member group at in
          let P : Option (List Value) → Type 0 = λ list. ListsJust (IsConstant schema member) (unwrap_or list []) in
          subst P (sym listed.1) listed.2

  pub tested_told : IsTrue (option_map_or (is_tested_in groups) (group_in groups member) false) ↔ IsTested schema member
  tested_told = by (group_in groups member) refl (tells.some member is)
    where
      by : (found : Option GroupId) → group_in groups member ≡ found → IsSome found → IsTrue (option_map_or (is_tested_in groups) found false) ↔ IsTested schema member
      by None at none = absurd cc
      by (Some group) at some = tells.tested member group at
