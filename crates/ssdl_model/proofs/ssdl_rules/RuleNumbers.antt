-- The rules on foreign keys have greater numbers than those on tables.
use Rattle.std.proofs.Common.{◌≡◌, ⊎_elim, ℕ, ◌<◌, ◌≤◌, ap, arith}
use Rattle.std.specs.Prelude.{codes}
use Rattle.layouts.specs.declared.fault.Fault.{Fault}
use Rattle.layouts.specs.declared.rule.Rule.{Rule}
use Rattle.layouts.specs.declared.rule.Rule.TheVariants.{KeyColumn}
use Rattle.layouts.specs.Rules.{rule_number}
use Rattle.layouts.specs.rule_places.Places.{InList}
use Rattle.layouts.proofs.rule_places.Rules.{rule_inside, rule_where}
use Rattle.csdl_names.specs.declared.csdl_lists.raw.RawModel.{RawModel}
use Rattle.csdl_names.specs.declared.csdl_lists.raw.RawProp.{RawProp}
use Rattle.csdl_names.specs.declared.csdl_lists.raw.RawType.{RawType}
use Rattle.csdl_names.specs.csdl_lists.References.{names_in}
use Rattle.csdl_types.specs.Keys.{IsFailingKeyProp, IsKeySimple}
use Rattle.ssdl_model.specs.ssdl_lists.Columns.{column_simple}
use Rattle.ssdl_model.specs.ssdl_rules.ForeignKeys.{IsForeignKeyFault}
use Rattle.ssdl_model.specs.ssdl_rules.StoreRules.{BreaksStoreRules}
use Rattle.ssdl_model.specs.ssdl_rules.TableRules.{IsColumnFault, IsKeyColumnFault, IsTableFault}

-- the rule is one on tables: V13, or V21 to V23
abbrev IsOfTables : Rule → Type 0
IsOfTables rule = (12 < rule_number rule) × (rule_number rule ≤ 23)

-- and one on foreign keys: V24 or V25
abbrev IsOfKeys : Rule → Type 0
IsOfKeys rule = 23 < rule_number rule

-- a rule that is known
of_tables : (n : ℕ) (rule : Rule) → rule_number rule ≡ n → 12 < n → n ≤ 23 → IsOfTables rule
of_tables n rule is late few = (omega (arith, is, late), omega (arith, is, few))

in_key_columns : (type : RawType) (fault : Fault) → IsKeyColumnFault type fault → IsOfTables fault.rule
in_key_columns type fault =
    let Fails : RawProp → Type 0 = λ column. ¬ IsKeySimple (column_simple column.kind) in
    rule_where IsOfTables (λ names inside. InList (codes "Property") (λ k. IsFailingKeyProp KeyColumn Fails names) type.props inside) type.key fault
    (λ names. rule_inside IsOfTables (codes "Property") (λ k. IsFailingKeyProp KeyColumn Fails names) type.props
    (λ k prop inside is. of_tables 23 inside.rule (ap rule_number is.1.0) (omega arith) (omega arith)) fault)

in_table : (i : ℕ) (type : RawType) (fault : Fault) → IsTableFault i type fault → IsOfTables fault.rule
in_table i type fault = ⊎_elim
    (rule_inside IsOfTables (codes "Property") IsColumnFault type.props
    (λ k prop inside. ⊎_elim
    (λ is. of_tables 13 inside.rule (ap rule_number is.1.0) (omega arith) (omega arith))
    (λ is. of_tables 21 inside.rule (ap rule_number is.1.0) (omega arith) (omega arith))) fault)
    (⊎_elim (λ is. of_tables 22 fault.rule (ap rule_number is.1.0) (omega arith) (omega arith)) (in_key_columns type fault))

module _ (store : RawModel) where
  -- on tables: V13, and V21 to V23
  pub table_rule : (fault : Fault) → InList (codes "EntityType") IsTableFault store.types fault → IsOfTables fault.rule
  table_rule = rule_inside IsOfTables (codes "EntityType") IsTableFault store.types in_table

  -- on foreign keys: V24 and V25
  pub key_rule : (fault : Fault) → InList (codes "Association") (IsForeignKeyFault (names_in store) store) store.associations fault → IsOfKeys fault.rule
  key_rule = rule_inside IsOfKeys (codes "Association") (IsForeignKeyFault (names_in store) store) store.associations
      (λ a association inside. ⊎_elim
      (λ is. let number : rule_number inside.rule ≡ 24 = ap rule_number is.1.0 in omega (arith, number))
      (λ is. let number : rule_number inside.rule ≡ 25 = ap rule_number is.1.0 in omega (arith, number)))

  -- on both: V13 and those after it
  pub store_rule : (fault : Fault) → BreaksStoreRules store fault → 12 < rule_number fault.rule
  store_rule fault = ⊎_elim (λ is. (table_rule fault is).0) (λ is. let late = key_rule fault is in omega (arith, late))
