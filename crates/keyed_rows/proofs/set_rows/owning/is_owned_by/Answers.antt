use Rattle.cells.specs.Parts.{schema_in}
use Rattle.round_trip.specs.Words.{Schema}
use Rattle.keyed_rows.proofs.set_rows.Owners.{told_set}
use Rattle.keyed_rows.proofs.set_rows.owning.is_owned_by.Goals as goal

pub returns : goal.returns
returns c =
    let schema : Schema = schema_in c.args.parts.now in
    let parts = c.requires.parts in
    let told = told_set schema parts.sound c.args.table c.args.set c.owner.result (parts.cells.owners.each c.args.table c.owner.result c.owner.ensures) in
    (λ yes. told.0 (c.is_set.ensures.0 yes), λ is. c.is_set.ensures.1 (told.1 is))
