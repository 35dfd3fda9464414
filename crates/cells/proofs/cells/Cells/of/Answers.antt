use Rattle.round_trip.specs.Words.{Schema}
use Rattle.round_trip.specs.Between.{schema_of}
use Rattle.cells.proofs.cells.Cells.of.Goals as goal

pub returns : goal.returns
returns c =
    let schema : Schema = schema_of c.args.model.now c.args.store.now c.args.mapping.now in
    record {
      owners = c.in_ok-owners_of.ensures c.requires;
      pairings = c.in_ok-pairings_of.ensures c.args.model.now c.requires;
      places = c.in_ok-places_of.ensures c.requires;
      free = c.in_ok-free_columns_of.ensures c.args.model.now;
      groups = c.in_ok-of.ensures;
    }
