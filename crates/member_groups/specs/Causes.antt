-- What makes groups tested, by their numbers.
use Rattle.std.specs.Prelude.{◌≡◌, ◌⊎◌, ◌==◌, ◌||◌, ℕ, Bool, false, List, length, Option, Some, option_and_then}
use Rattle.std.specs.Bool.{then_some}
use Rattle.std.specs.BTreeSet.{BTreeSet, contains}
use Rattle.std.specs.Ordering.{nat_cmp}
use Rattle.round_trip.specs.Words.{PropId, Kind, EntityModel, Prop, Mapping, At}
use Rattle.emc_base.specs.declared.value.Kind.TheVariants as kind
use Rattle.round_trip.specs.soundness.mappings.Joined.{prop}
use Rattle.member_groups.specs.declared.mapping_asks.asks.Ask.{Ask}
use Rattle.member_groups.specs.declared.mapping_asks.member.MemberId.{MemberId}
use Rattle.member_groups.specs.declared.group_numbers.numbered.Numbered.{Numbered}
use Rattle.member_groups.specs.mapping_asks.Adding.{Each, EachBelow, HasKey, Tells}
use Rattle.member_groups.specs.mapping_asks.Asks.{id_of, member_at}
use Rattle.member_groups.specs.group_numbers.Joint.{IsJointAt, joint_in}
use Rattle.member_groups.specs.mapping_asks.Several.{StandsWithTwo}
use Rattle.member_groups.specs.mapping_asks.Writes.{WritesBy}

-- the group of what is asked has the number
abbrev pub AsksGroup : Numbered → Ask → ℕ → Type 0
AsksGroup numbered ask k = IsJointAt numbered (member_at ask.on) k

-- a number of a group, with the property at this place, which is in it
abbrev pub IsSharer : Numbered → ℕ → ℕ × MemberId → Type 0
IsSharer numbered i entry = IsJointAt numbered (prop (record { index = i })) entry.0 × (entry.1 ≡ id_of (prop (record { index = i })))

-- whether a kind makes a group tested that it shares with another property, or doesn't
abbrev pub makes_tested : Kind → Bool → Bool
makes_tested (kind.Enum enumeration) is_shared = is_shared || (length enumeration.members == 1)
makes_tested _ is_shared = false

-- the group that a property of this kind makes tested, where it is known which properties are written twice and which groups are shared
abbrev pub mark_by : Numbered → BTreeSet ℕ → BTreeSet ℕ → PropId → Kind → Option ℕ
mark_by numbered twice shared p kind =
    option_and_then (λ group. then_some (contains nat_cmp twice p.index || makes_tested kind (contains nat_cmp shared group.index)) group.index) (joint_in numbered (prop p))

-- the property at this place makes the group tested
abbrev pub MarksGroup : EntityModel → Numbered → BTreeSet ℕ → BTreeSet ℕ → ℕ → ℕ → Type 0
MarksGroup model numbered twice shared i k = (declared : Prop) × At model.props i declared × (mark_by numbered twice shared (record { index = i }) declared.kind ≡ Some k)

-- these are the groups that what is asked makes tested, or a property by itself
pub record AreTested (model : EntityModel) (mapping : Mapping) (numbered : Numbered) (asks : List Ask) (tested : BTreeSet ℕ) : Type 0 where
  pub twice : BTreeSet ℕ
  pub shared : BTreeSet ℕ
  pub are_twice : Tells (HasKey twice) (StandsWithTwo (Each WritesBy mapping.fragments))
  pub are_shared : Tells (HasKey shared) (StandsWithTwo (EachBelow (IsSharer numbered) (length model.props)))
  pub are_tested : Tells (HasKey tested) (λ k. Each (AsksGroup numbered) asks k ⊎ EachBelow (MarksGroup model numbered twice shared) (length model.props) k)
