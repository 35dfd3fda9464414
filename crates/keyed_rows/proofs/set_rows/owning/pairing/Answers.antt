use Rattle.std.proofs.Common.{◌∙◌}
use Rattle.cells.specs.Parts.{schema_in}
use Rattle.round_trip.specs.Words.{Schema}
use Rattle.keyed_rows.proofs.set_rows.Owners.{owning}
use Rattle.keyed_rows.proofs.set_rows.Pairing.{props_are}
use Rattle.keyed_rows.proofs.set_rows.owning.pairing.Goals as goal

pub returns : goal.returns
returns c =
    let schema : Schema = schema_in c.args.parts.now in
    let parts = c.requires.parts in
    let own = owning schema parts.sound c.args.table c.args.set c.requires.owned in
    let told = parts.cells.pairings.each c.args.table c.pairing.result.now c.pairing.ensures in
    (own, c.as_slice.ensures.items ∙ props_are schema parts.sound c.args.table c.args.set own.pairing own.owned c.pairing.result.now told c.requires.owned)
