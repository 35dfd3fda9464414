-- What a mapping asks of properties and columns, as a list of its conditions and of those that its link fragments imply.
-- Source: MSL version 3, Condition and EndProperty.
use Rattle.std.specs.Prelude.{◌≡◌, ◌⊎◌, Option, Some, None}
use Rattle.round_trip.specs.Words.{TableId, Value, Mapping, Fragment, Pair, LinkFragment, Cond, Test}
use Rattle.edm_types.specs.declared.mapping.Test.TheVariants as test
use Rattle.round_trip.specs.soundness.mappings.Joined.{Member, prop, col, member_of}
use Rattle.member_groups.specs.declared.mapping_asks.asks.Ask.{Ask}
use Rattle.member_groups.specs.declared.mapping_asks.member.MemberId.{MemberId}
use Rattle.member_groups.specs.declared.mapping_asks.member.MemberId.TheVariants.{Prop, Column}
use Rattle.member_groups.specs.mapping_asks.Adding.{Each}

-- a property or a column by its ids
abbrev pub id_of : Member → MemberId
id_of (prop p) = Prop p
id_of (col t c) = Column t c

-- the property or the column that has these ids
abbrev pub member_at : MemberId → Member
member_at (Prop p) = prop p
member_at (Column t c) = col t c

-- the value with which a condition compares, if it does
abbrev pub constant_in : Test → Option Value
constant_in (test.IsNull is_null) = None
constant_in (test.Equals constant) = Some constant

-- what a condition of a fragment to this table asks
abbrev pub ask_by : TableId → Cond → Ask
ask_by table cond = record { on = id_of (member_of table cond.on); constant = constant_in cond.test }

-- it is what this condition asks
abbrev pub IsAskBy : TableId → Cond → Ask → Type 0
IsAskBy table cond ask = ask ≡ ask_by table cond

-- it is the implied condition on the column of this pair
abbrev pub IsImpliedBy : TableId → Pair → Ask → Type 0
IsImpliedBy table pair ask = ask ≡ record { on = Column table pair.col; constant = None }

-- it is asked by a condition of this entity fragment
abbrev pub AsksBy : Fragment → Ask → Type 0
AsksBy fragment = Each (IsAskBy fragment.table) fragment.conds

-- it is asked by a condition of this link fragment, or implied by a pair of one of its ends
abbrev pub AsksByLink : LinkFragment → Ask → Type 0
AsksByLink fragment ask = (Each (IsAskBy fragment.table) fragment.conds ask ⊎ Each (IsImpliedBy fragment.table) fragment.first ask)
    ⊎ Each (IsImpliedBy fragment.table) fragment.second ask

-- the mapping asks it
abbrev pub Asks : Mapping → Ask → Type 0
Asks mapping ask = Each AsksBy mapping.fragments ask ⊎ Each AsksByLink mapping.links ask
