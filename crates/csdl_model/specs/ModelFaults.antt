-- The rules that a CSDL document breaks, and where.
-- Source: CSDL version 3, in the profile of this project.
use Rattle.std.specs.Prelude.{◌⊎◌}
use Rattle.serde_json.specs.Data.{Data}
use Rattle.layouts.specs.declared.fault.Fault.{Fault}
use Rattle.layouts.specs.declared.form.Form.TheVariants.{Object}
use Rattle.layouts.specs.declared.form.Shape.TheVariants.{Model}
use Rattle.layouts.specs.Forms.{IsFaultOf}
use Rattle.csdl_names.specs.declared.csdl_lists.raw.RawModel.{RawModel}
use Rattle.csdl_names.specs.csdl_lists.Raw.{raw_model}
use Rattle.csdl_names.specs.Repeated.{IsRepeated}
use Rattle.csdl_names.specs.Unresolved.{IsUnresolved}
use Rattle.csdl_types.specs.TypeRules.{BreaksTypeRules}
use Rattle.csdl_associations.specs.csdl_constraints.Constraints.{BreaksConstraintRules}
use Rattle.csdl_associations.specs.csdl_association_sets.SetRules.{BreaksSetRules}

-- V14 to V20: an association, a constraint, or a set that isn't well-formed
abbrev pub BreaksAssociationRules : RawModel → Fault → Type 0
BreaksAssociationRules model fault = BreaksConstraintRules model fault ⊎ BreaksSetRules model fault

-- V8 to V20: the same, or a type, a property or an enumeration that isn't
abbrev pub IsFaultAfterReferences : RawModel → Fault → Type 0
IsFaultAfterReferences model fault = BreaksTypeRules model fault ⊎ BreaksAssociationRules model fault

-- V7 to V20: the same, or a name that resolves to nothing
abbrev pub IsFaultAfterNames : RawModel → Fault → Type 0
IsFaultAfterNames model fault = IsUnresolved model fault ⊎ IsFaultAfterReferences model fault

-- V6 to V20: what is written breaks the rule at the place
abbrev pub IsListFault : RawModel → Fault → Type 0
IsListFault model fault = IsRepeated model fault ⊎ IsFaultAfterNames model fault

-- the document breaks the rule at the place: one of its layout, or one on what is written in it
abbrev pub IsModelFault : Data → Fault → Type 0
IsModelFault d fault = IsFaultOf (Object Model) d fault ⊎ IsListFault (raw_model d) fault
