-- The text of the query views of an accepted mapping.
-- Source: the query views of Melnik, Adya and Bernstein, SIGMOD 2007; this project's view documents.
use Rattle.std.specs.Prelude.{◌≡◌, ℕ, List}
use Rattle.round_trip.specs.Words.{Schema}
use Rattle.cells.specs.declared.parts.Parts.{Parts}
use Rattle.cells.specs.Cells.{is_free_in}
use Rattle.cells.specs.Parts.{AreParts, schema_in}
use Rattle.region_states.specs.region_basis.BasisOf.{basis_of}
use Rattle.case_laws.specs.declared.region_cases.case.Case.{Case}
use Rattle.texts.specs.case_texts.Views.{views_text}
use Rattle.query_views.specs.Views.{AreCases}

-- the lines of the cases of all sets, by the cells of the mapping, and of its joined associations
pub record IsViewsText (schema : Schema) (text : List ℕ) : Type 0 where
  pub parts : Parts
  pub of_schema : schema_in parts ≡ schema
  pub are_parts : AreParts parts
  pub cases : List (List Case)
  pub are : AreCases (basis_of parts) (is_free_in parts.cells.now) cases
  pub is : text ≡ views_text parts cases
