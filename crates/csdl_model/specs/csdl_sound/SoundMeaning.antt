-- When a CSDL document breaks no rule.
use Rattle.layouts.specs.declared.fault.Fault.{Fault}
use Rattle.csdl_names.specs.declared.csdl_lists.raw.RawModel.{RawModel}
use Rattle.csdl_associations.specs.csdl_constraints.Constraints.{BreaksConstraintRules}
use Rattle.csdl_associations.specs.csdl_association_sets.SetRules.{BreaksSetRules}
use Rattle.csdl_meaning.specs.SoundTypes.{KeepsTypeRules}

-- the document breaks none of the rules V6 to V20
pub record KeepsRules (raw : RawModel) : Type 0 where
  -- V6 to V13
  pub types : KeepsTypeRules raw
  -- V16, V17
  pub constraints : (fault : Fault) → ¬ BreaksConstraintRules raw fault
  -- V14, V15, V18 to V20
  pub sets : (fault : Fault) → ¬ BreaksSetRules raw fault
