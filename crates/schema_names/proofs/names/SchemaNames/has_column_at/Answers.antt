use Rattle.std.proofs.Common.{sym}
use Rattle.schema_names.proofs.NearPlaces.{column_here}
use Rattle.schema_names.proofs.names.SchemaNames.has_column_at.Goals as goal

pub returns-then-known : goal.returns-then-known
returns-then-known c = λ is.
    let self = c.args.self.now in
    let found = c.in-Some-Some in
    column_here self.store.now self.tables.columns c.args.table c.args.name.now c.args.place found.known.now found.held.now self.tabled.columns
    (sym found.ensures.item) (sym found.ensures'.item) c.if-known.true (c.is_column_at.ensures.0 is)
