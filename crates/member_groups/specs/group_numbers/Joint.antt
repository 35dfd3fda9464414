-- The numbers of groups of what is no part of a key.
use Rattle.std.specs.Prelude.{◌≡◌, ℕ, Option, Some, option_and_then}
use Rattle.round_trip.specs.Words.{GroupId}
use Rattle.round_trip.specs.soundness.mappings.Joined.{Member}
use Rattle.member_groups.specs.joined_groups.Groups.{group_of}
use Rattle.member_groups.specs.declared.group_numbers.numbered.Numbered.{Numbered}
use Rattle.member_groups.specs.group_numbers.Numbers.{number_in}

-- the group of a property or a column, unless it is a part of a key
abbrev pub joint_in : Numbered → Member → Option GroupId
joint_in numbered member = option_and_then (λ _. number_in numbered.numbers member) (group_of numbered.groups member)

-- this is its number
abbrev pub IsJointAt : Numbered → Member → ℕ → Type 0
IsJointAt numbered member k = joint_in numbered member ≡ Some (record { index = k })
