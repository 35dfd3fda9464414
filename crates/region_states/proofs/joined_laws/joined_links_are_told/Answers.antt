use Rattle.cells.specs.Parts.{schema_in}
use Rattle.region_states.proofs.joined_laws.Told.{joined_told, told_joined}
use Rattle.region_states.proofs.joined_laws.joined_links_are_told.Goals as goal

pub returns-clause-told : goal.returns-clause-told
returns-clause-told c parts are = joined_told (schema_in parts) are.sound parts.cells.now.places are.cells.places

pub returns-clause-only : goal.returns-clause-only
returns-clause-only c parts are = told_joined (schema_in parts) are.sound parts.cells.now.places are.cells.places
