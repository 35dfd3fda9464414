-- What conditions may be on, and with what they compare.
-- Source: MSL version 3, Condition. That no condition is on a key is the profile's choice.
use Rattle.std.specs.Prelude.{◌≡◌, List, Any, Contains, Option, Some}
use Rattle.round_trip.specs.Words.{PropId, TableId, ColId, Value, Kind, Cond, CondOn, StoreModel, Schema, InDomain, key_columns}
use Rattle.edm_types.specs.declared.mapping.CondOn.TheVariants as on
use Rattle.edm_types.specs.declared.mapping.Test.TheVariants.{Equals}
use Rattle.round_trip.specs.soundness.Kinds.{IsBinary}
use Rattle.round_trip.specs.soundness.Lookups.{prop_kind, column_kind}

-- one of the conditions is on it
abbrev pub AskOf : List Cond → CondOn → Type 0
AskOf conds what = Any (λ cond. cond.on ≡ what) conds

-- V33: conditions of an association are on columns alone
abbrev pub AskOfNoProp : List Cond → Type 0
AskOfNoProp conds = (prop : PropId) → ¬ AskOf conds (on.Prop prop)

-- the kind of what a condition is on, in this table
abbrev pub kind_of : Schema → TableId → CondOn → Option Kind
kind_of schema table (on.Prop prop) = prop_kind schema.model prop
kind_of schema table (on.Col col) = column_kind schema.store table col

-- V34: a constant lies in the domain of what it is compared with, which is never binary
abbrev pub ComparesInDomain : Schema → TableId → Cond → Type 0
ComparesInDomain schema table cond = (constant : Value) → cond.test ≡ Equals constant
    → (kind : Kind) → kind_of schema table cond.on ≡ Some kind → InDomain constant kind × ¬ IsBinary kind

-- V35: no condition is on a property of the key
abbrev pub AskOfNoKeyProp : List PropId → List Cond → Type 0
AskOfNoKeyProp key conds = (prop : PropId) → AskOf conds (on.Prop prop) → ¬ Contains key prop

-- V35: no condition is on a column of the table's primary key
abbrev pub AskOfNoKeyColumn : StoreModel → TableId → List Cond → Type 0
AskOfNoKeyColumn store table conds = (col : ColId) → AskOf conds (on.Col col) → ¬ Contains (key_columns store table) col
