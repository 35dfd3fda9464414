-- What the states that are shown of a conflict rest on.
-- Source: this project's.
use Rattle.cells.specs.declared.parts.Parts.{Parts}
use Rattle.cells.specs.Parts.{AreParts, schema_in}
use Rattle.region_states.specs.region_basis.BasisOf.{basis_of}
use Rattle.region_states.specs.conflicts.Conflicts.{kind_of}
use Rattle.region_states.specs.conflicts.There.{NoneFailsBefore}
use Rattle.region_states.specs.declared.conflicts.conflict.Conflict.{Conflict}
use Rattle.failure_laws.specs.Facts.{IsSo, TellsOfOne}

-- sound parts, and a conflict of regions of a set or of links of an association that is as it says, before whose kind no legal state fails
pub record IsFirstConflict (parts : Parts) (told : Conflict) : Type 0 where
  pub are : AreParts parts
  pub of_one : TellsOfOne (basis_of parts) told
  pub so : IsSo (basis_of parts) told
  pub earlier : NoneFailsBefore (schema_in parts) (kind_of told)
