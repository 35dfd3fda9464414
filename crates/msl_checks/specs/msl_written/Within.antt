-- The schema that a test looks at, and what a document's names, pairs and conditions stand for there.
-- Source: MSL version 3, ScalarProperty and Condition.
use Rattle.std.specs.Prelude.{◌≡◌, ℕ, List, MatchOption, Option, Some}
use Rattle.round_trip.specs.Words.{PropId, TableId, ColId, Value, Kind, Pair, CondOn, Schema, key_columns}
use Rattle.msl_rules.specs.condition_values.Spelled.{IsSpelled}
use Rattle.round_trip.specs.soundness.mappings.Joined.{ComparesNoBarred}
use Rattle.round_trip.specs.Between.{schema_of}
use Rattle.msl_rules.specs.declared.msl_lists.raw.RawPair.{RawPair}
use Rattle.msl_rules.specs.declared.msl_lists.raw.RawCond.{RawCond}
use Rattle.msl_rules.specs.Found.{table_numbered, pair_in, kind_on, test_of}
use Rattle.msl_meaning.specs.msl_found.NamedAt.{named_at}
use Rattle.msl_meaning.specs.declared.msl_found.in_table.InTable.{InTable}
use Rattle.msl_checks.specs.declared.msl_written.between.Between.{Between}
use Rattle.msl_checks.specs.declared.msl_written.writing.Writing.{Writing}

-- the model, the store and the mapping
abbrev pub schema_in : Between → Schema
schema_in between = schema_of between.names.now.model.now between.names.now.store.now between.mapping.now

-- what the name of a property stands for
abbrev pub named_in : Writing → List ℕ → Option PropId
named_in writing = named_at writing.between.names.now.model.now writing.ty

-- the table and the type, for look-ups
abbrev pub found_in : Writing → InTable
found_in writing = record { names = writing.between.names; ty = writing.ty; table = writing.table }

-- the table
abbrev pub table_in : Writing → TableId
table_in writing = table_numbered writing.table

-- the columns of its primary key
abbrev pub key_in : Writing → List ColId
key_in writing = key_columns writing.between.names.now.store.now (table_in writing)

-- a property and the column that it is written to, where both are found
abbrev pub meant_in : Writing → RawPair → Option Pair
meant_in writing = pair_in writing.between.names.now.model.now writing.between.names.now.store.now (named_in writing) writing.table

-- the kind of what a condition is on
abbrev pub kind_in : Writing → CondOn → Option Kind
kind_in writing = kind_on writing.between.names.now.model.now writing.between.names.now.store.now (named_in writing) writing.table

-- the text gives no value in the domain of what a condition is on
abbrev pub GivesNoValue : Writing → List ℕ → CondOn → Type 0
GivesNoValue writing text what = (kind : Kind) × (kind_in writing what ≡ Some kind) × ((value : Value) → ¬ IsSpelled kind text value)

-- a condition on this compares a value with what tells another entity
abbrev pub ComparesBarred : Writing → CondOn → RawCond → Type 0
ComparesBarred writing what cond = MatchOption (test_of (kind_in writing what) cond.value cond.is_null) ⊥
    (λ test. ¬ ComparesNoBarred (schema_in writing.between) (table_in writing) (record { on = what; test = test }))
