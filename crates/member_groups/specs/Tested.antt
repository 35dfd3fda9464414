-- What a mapping asks of properties and columns, and so of their groups: which are tested, and with which constants they are compared.
-- Source: MSL version 3, ScalarProperty, EndProperty and Condition; the groups of properties and columns of this project's profile.
use Rattle.std.specs.Prelude.{◌≡◌, ◌≢◌, ◌⊎◌, ◌<◌, ◌++◌, ℤ, length, Contains}
use Rattle.round_trip.specs.Words.{PropId, TableId, Value, Whole, Prop, Fragment, Pair, LinkFragment, Cond, Schema, At}
use Rattle.emc_base.specs.declared.value.EnumKind.{EnumKind}
use Rattle.emc_base.specs.declared.value.Kind.TheVariants as kind
use Rattle.edm_types.specs.declared.mapping.Test.TheVariants.{Equals}
use Rattle.round_trip.specs.soundness.Lookups.{columns_of}
use Rattle.round_trip.specs.soundness.mappings.Joined.{Member, prop, col, Joined, member_of}

-- a property of the model, or a column of the store
abbrev pub IsMember : Schema → Member → Type 0
IsMember schema (prop p) = p.index < length schema.model.props
IsMember schema (col t c) = c.index < length (columns_of schema.store t)

-- in one group: one and the same, as a part of a key is with itself alone, or joined
abbrev pub AreInOneGroup : Schema → Member → Member → Type 0
AreInOneGroup schema one other = (one ≡ other) ⊎ Joined schema one other

-- the condition is one of a fragment that writes the table
abbrev pub HasCondition : Schema → TableId → Cond → Type 0
HasCondition schema table cond = ((fragment : Fragment) × Contains schema.mapping.fragments fragment × (fragment.table ≡ table) × Contains fragment.conds cond)
    ⊎ ((fragment : LinkFragment) × Contains schema.mapping.links fragment × (fragment.table ≡ table) × Contains fragment.conds cond)

-- a condition is on it
abbrev pub IsAsked : Schema → Member → Type 0
IsAsked schema member = (table : TableId) × (cond : Cond) × HasCondition schema table cond × (member_of table cond.on ≡ member)

-- an implied condition is on it: a link fragment writes a part of a key to this column, which then isn't null
abbrev pub IsImplied : Schema → Member → Type 0
IsImplied schema member = (fragment : LinkFragment) × (pair : Pair) × Contains schema.mapping.links fragment
    × Contains (fragment.first ++ fragment.second) pair × (col fragment.table pair.col ≡ member)

-- a Value condition compares it with this constant
abbrev pub IsComparedWith : Schema → Member → Value → Type 0
IsComparedWith schema member constant = (table : TableId) × (cond : Cond) × HasCondition schema table cond × (member_of table cond.on ≡ member)
    × (cond.test ≡ Equals constant)

-- an entity fragment writes the property to this column
abbrev pub IsWrittenTo : Schema → PropId → Member → Type 0
IsWrittenTo schema p target = (fragment : Fragment) × (pair : Pair) × Contains schema.mapping.fragments fragment × Contains fragment.pairs pair
    × (pair.prop ≡ p) × (col fragment.table pair.col ≡ target)

-- the property is written to two columns
abbrev pub IsWrittenTwice : Schema → PropId → Type 0
IsWrittenTwice schema p = (one other : Member) × IsWrittenTo schema p one × IsWrittenTo schema p other × (one ≢ other)

-- the property is of this enumeration
abbrev pub IsOfEnum : Schema → PropId → EnumKind → Type 0
IsOfEnum schema p enumeration = (declared : Prop) × At schema.model.props p.index declared × (declared.kind ≡ kind.Enum enumeration)

-- the property is of an enumeration, and another property is joined to it
abbrev pub SharesEnum : Schema → PropId → Type 0
SharesEnum schema p = (enumeration : EnumKind) × (other : PropId) × IsOfEnum schema p enumeration × (p ≢ other) × Joined schema (prop p) (prop other)

-- the property is of an enumeration that has one number
abbrev pub HasOneNumber : Schema → PropId → Type 0
HasOneNumber schema p = (enumeration : EnumKind) × IsOfEnum schema p enumeration × (length enumeration.members ≡ 1)

-- it makes its group a tested one
abbrev pub MakesTested : Schema → Member → Type 0
MakesTested schema (prop p) = IsAsked schema (prop p) ⊎ IsWrittenTwice schema p ⊎ SharesEnum schema p ⊎ HasOneNumber schema p
MakesTested schema (col t c) = IsAsked schema (col t c) ⊎ IsImplied schema (col t c)

-- its group is tested: something joined to it makes it so. A part of a key isn't joined to anything, and is never tested.
abbrev pub IsTested : Schema → Member → Type 0
IsTested schema member = (other : Member) × Joined schema member other × MakesTested schema other

-- a constant of its group: a value with which something joined to it is compared, or, where the group is tested, a number of an enumeration in it
abbrev pub IsConstant : Schema → Member → Value → Type 0
IsConstant schema member value = ((other : Member) × Joined schema member other × IsComparedWith schema other value)
    ⊎ (IsTested schema member × ((p : PropId) × (enumeration : EnumKind) × (number : ℤ) × Joined schema member (prop p) × IsOfEnum schema p enumeration
    × Contains enumeration.members number × (value ≡ Whole number)))
