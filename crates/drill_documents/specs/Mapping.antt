-- The documents of the mapping that `drill` tries. They stand in the code, once, and are cited here.
-- Source: CSDL, SSDL and MSL version 3, in the JSON layouts of this project.
use Rattle.std.specs.Prelude.{◌≡◌, ℕ, List}
use Rattle.drill_documents.specs.declared.mapping.TheConstants as mapping
use Rattle.drill_documents.specs.declared.mapping.DrillMapping.{DrillMapping}

-- people, of whom some are employees, each with at most one boss; and documents, of which some are reports
abbrev pub drill_csdl : List ℕ
drill_csdl = mapping.CSDL.now

-- a table of people, with a column for their kind and one for the boss; a table of documents, and one of what reports have besides
abbrev pub drill_ssdl : List ℕ
drill_ssdl = mapping.SSDL.now

-- how these stand in those
abbrev pub drill_msl : List ℕ
drill_msl = mapping.MSL.now

-- the three documents are these
pub record IsDrillMapping (mapping : DrillMapping) : Type 0 where
  pub csdl : mapping.csdl ≡ drill_csdl
  pub ssdl : mapping.ssdl ≡ drill_ssdl
  pub msl : mapping.msl ≡ drill_msl
