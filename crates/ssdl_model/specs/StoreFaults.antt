-- The rules that an SSDL document breaks, and where.
-- Source: SSDL version 3, in the profile of this project.
use Rattle.std.specs.Prelude.{◌⊎◌}
use Rattle.serde_json.specs.Data.{Data}
use Rattle.layouts.specs.declared.fault.Fault.{Fault}
use Rattle.layouts.specs.declared.form.Form.TheVariants.{Object}
use Rattle.layouts.specs.declared.form.Shape.TheVariants.{Store}
use Rattle.layouts.specs.Forms.{IsFaultOf}
use Rattle.csdl_names.specs.declared.csdl_lists.raw.RawModel.{RawModel}
use Rattle.csdl_names.specs.Repeated.{IsRepeated}
use Rattle.csdl_names.specs.Unresolved.{IsUnresolved}
use Rattle.ssdl_model.specs.ssdl_lists.RawStore.{raw_store}
use Rattle.ssdl_model.specs.ssdl_rules.Owned.{IsEndless, IsShared}
use Rattle.ssdl_model.specs.ssdl_rules.StoreRules.{BreaksStoreRules}

-- V6: a name is given twice in its scope, or two tables have one type
abbrev pub IsGivenTwice : RawModel → Fault → Type 0
IsGivenTwice store fault = IsRepeated store fault ⊎ IsShared store fault

-- V7: a name resolves to nothing, or an end leads to no table
abbrev pub NamesNothing : RawModel → Fault → Type 0
NamesNothing store fault = IsUnresolved store fault ⊎ IsEndless store fault

-- V7, V13 and V21 to V25: the same, or a table or a foreign key isn't well-formed
abbrev pub IsFaultAfterNames : RawModel → Fault → Type 0
IsFaultAfterNames store fault = NamesNothing store fault ⊎ BreaksStoreRules store fault

-- V6, V7, V13 and V21 to V25: what is written breaks the rule at the place
abbrev pub IsStoreListFault : RawModel → Fault → Type 0
IsStoreListFault store fault = IsGivenTwice store fault ⊎ IsFaultAfterNames store fault

-- the document breaks the rule at the place: one of its layout, or one on what is written in it
abbrev pub IsStoreFault : Data → Fault → Type 0
IsStoreFault d fault = IsFaultOf (Object Store) d fault ⊎ IsStoreListFault (raw_store d) fault
