-- The rules on tables and foreign keys: V13 and V21 to V25.
use Rattle.std.specs.Prelude.{◌⊎◌, codes}
use Rattle.layouts.specs.declared.fault.Fault.{Fault}
use Rattle.layouts.specs.rule_places.Places.{InList}
use Rattle.csdl_names.specs.declared.csdl_lists.raw.RawModel.{RawModel}
use Rattle.csdl_names.specs.csdl_lists.References.{names_in}
use Rattle.ssdl_model.specs.ssdl_rules.ForeignKeys.{IsForeignKeyFault}
use Rattle.ssdl_model.specs.ssdl_rules.TableRules.{IsTableFault}

-- V13 and V21 to V25
abbrev pub BreaksStoreRules : RawModel → Fault → Type 0
BreaksStoreRules model fault =
    InList (codes "EntityType") IsTableFault model.types fault
    ⊎ InList (codes "Association") (IsForeignKeyFault (names_in model) model) model.associations fault
