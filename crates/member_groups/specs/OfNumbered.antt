-- The groups of numbered properties and columns, as they are put together.
use Rattle.std.specs.Prelude.{◌≡◌, List}
use Rattle.round_trip.specs.Words.{EntityModel, StoreModel, Mapping, Fragment}
use Rattle.member_groups.specs.declared.groups.MemberGroups.{MemberGroups}
use Rattle.member_groups.specs.declared.group_numbers.numbered.Numbered.{Numbered}
use Rattle.member_groups.specs.declared.mapping_asks.asks.Ask.{Ask}
use Rattle.member_groups.specs.joined_groups.Groups.{TellsGroups}
use Rattle.member_groups.specs.group_numbers.Numbers.{AreNumbers}
use Rattle.member_groups.specs.group_constants.Constants.{ListsGroups}
use Rattle.member_groups.specs.Causes.{AreTested}

-- they are the groups of the fragments, with their numbers
pub record TellsNumbered (model : EntityModel) (store : StoreModel) (fragments : List Fragment) (numbered : Numbered) : Type 0 where
  pub groups : TellsGroups model store fragments numbered.groups
  pub numbers : AreNumbers numbered.groups model store numbered.numbers

-- they have these numbers, with what is tested of them by what is asked, and their constants
pub record AreOfNumbered (model : EntityModel) (mapping : Mapping) (numbered : Numbered) (asks : List Ask) (groups : MemberGroups) : Type 0 where
  pub numbers : groups.numbers ≡ numbered.numbers
  pub tested : AreTested model mapping numbered asks groups.tested
  pub constants : ListsGroups model numbered asks groups.tested groups.constants
