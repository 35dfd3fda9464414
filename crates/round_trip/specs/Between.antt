-- A model, a store and a mapping between them.
use Rattle.round_trip.specs.Words.{EntityModel, StoreModel, Mapping, Schema}

-- the three together
abbrev pub schema_of : EntityModel → StoreModel → Mapping → Schema
schema_of model store mapping = record { model = model; store = store; mapping = mapping }
