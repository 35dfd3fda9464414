-- The names of what ids stand for; no name where nothing of the id is there.
-- Source: the names of CSDL and SSDL, version 3.
use Rattle.std.specs.Prelude.{ℕ, List, [], slice_get, Bool}
use Rattle.std.specs.Option.{option_map_or}
use Rattle.round_trip.specs.Words.{TableId, AssocId, EntityModel, StoreModel, Column}
use Rattle.regions.specs.Basis.{host_end}

-- the name of an association set
abbrev pub assoc_name : EntityModel → AssocId → List ℕ
assoc_name model a = option_map_or (λ assoc. assoc.set_name) (slice_get model.assocs a.index) []

-- the role of an end of an association, the first or the second
abbrev pub role_name : EntityModel → AssocId → Bool → List ℕ
role_name model a first = option_map_or (λ assoc. (host_end first assoc).role) (slice_get model.assocs a.index) []

-- the name of a table
abbrev pub table_name : StoreModel → TableId → List ℕ
table_name store t = option_map_or (λ table. table.name) (slice_get store.tables t.index) []

-- the columns of a table
abbrev pub columns_of : StoreModel → TableId → List Column
columns_of store t = option_map_or (λ table. table.cols) (slice_get store.tables t.index) []
