use Rattle.std.proofs.Common.{List, ◌↔◌, IsTrue, append-nil, subst}
use Rattle.round_trip.specs.Words.{Pair}
use Rattle.round_trip.specs.FailsAt.{IsHostedAt}
use Rattle.round_trip.specs.Between.{schema_of}
use Rattle.table_owners.proofs.link_places.placed.is_hosted.Goals as goal

pub returns : goal.returns
returns c = λ model mapping.
    let Tells : List Pair → Type 0 = λ pairs. IsTrue c.are_key.result ↔ IsHostedAt (schema_of model c.args.store.now mapping) c.args.table pairs in
    subst Tells (append-nil c.args.pairs.now) (c.are_key.ensures model mapping)
