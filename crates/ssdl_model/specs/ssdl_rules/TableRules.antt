-- V13 and V21 to V23: the columns and the key of a table's type.
-- Source: SSDL version 3, EntityType, Key and Property.
use Rattle.std.specs.Prelude.{◌≡◌, ◌⊎◌, ℕ, List, [], ◌∷◌, None, MatchOption, true, Any, Contains, codes, ⊤}
use Rattle.json_form.specs.declared.pointer.Step.TheVariants.{Member}
use Rattle.layouts.specs.declared.fault.Fault.{Fault}
use Rattle.layouts.specs.declared.rule.Rule.TheVariants.{Bound, ColumnType, KeyColumn, TableKey}
use Rattle.layouts.specs.rule_places.Places.{IsAt, InList}
use Rattle.csdl_names.specs.declared.csdl_lists.raw.RawProp.{RawProp}
use Rattle.csdl_names.specs.declared.csdl_lists.raw.RawType.{RawType}
use Rattle.csdl_types.specs.Keys.{HasFailingKeyProp, IsKey, IsKeySimple}
use Rattle.csdl_types.specs.PropTypes.{BreaksBound}
use Rattle.ssdl_model.specs.ssdl_lists.Columns.{HasColumnLength, column_simple}

-- V13, seen from the column
abbrev pub IsColumnBoundFault : RawProp → Fault → Type 0
IsColumnBoundFault column fault = BreaksBound (HasColumnLength column.kind) column.bound × IsAt Bound (Member (codes "MaxLength") ∷ []) fault

-- V21, seen from the column: its Type is no type of a column
abbrev pub IsColumnTypeFault : RawProp → Fault → Type 0
IsColumnTypeFault column fault = (column_simple column.kind ≡ None) × IsAt ColumnType (Member (codes "Type") ∷ []) fault

-- V13 and V21
abbrev pub IsColumnFault : ℕ → RawProp → Fault → Type 0
IsColumnFault k column fault = IsColumnBoundFault column fault ⊎ IsColumnTypeFault column fault

-- a column of the key may be null
abbrev pub HasNullableKey : List (List ℕ) → List RawProp → Type 0
HasNullableKey names = Any (λ column. Contains names column.name × (column.nullable ≡ true))

-- the names are no key: they aren't one to four, each once, or one is that of a column that may be null
abbrev pub BreaksTableKey : List RawProp → List (List ℕ) → Type 0
BreaksTableKey columns names = (¬ IsKey names) ⊎ HasNullableKey names columns

-- V22, seen from the type: it has no key, or what it has is none
abbrev pub IsTableKeyFault : RawType → Fault → Type 0
IsTableKeyFault type fault = MatchOption type.key ⊤ (BreaksTableKey type.props) × IsAt TableKey (Member (codes "Key") ∷ []) fault

-- V23: a column of the key isn't of a type that a key may have
abbrev pub IsKeyColumnFault : RawType → Fault → Type 0
IsKeyColumnFault = HasFailingKeyProp KeyColumn (λ column. ¬ IsKeySimple (column_simple column.kind))

-- V13 and V21 to V23, seen from the type
abbrev pub IsTableFault : ℕ → RawType → Fault → Type 0
IsTableFault i type fault = InList (codes "Property") IsColumnFault type.props fault ⊎ IsTableKeyFault type fault ⊎ IsKeyColumnFault type fault
