-- Tables that are put together of some rows and a rest.
-- Source: this project's.
use Rattle.std.specs.Prelude.{◌≡◌, ◌⊎◌, Contains}
use Rattle.round_trip.specs.Words.{Row, StoreModel, TableId, Tables, rows_in}
use Rattle.row_changes.specs.Changes.{key_in}

-- the rows of the whole are those of a part and of a rest; no row of the part has the key of one of the rest, and no two of the rest have one
pub record AreJoined (store : StoreModel) (part rest whole : Tables) : Type 0 where
  pub either : (t : TableId) (row : Row) → Contains (rows_in whole t) row → Contains (rows_in part t) row ⊎ Contains (rows_in rest t) row
  pub of_part : (t : TableId) (row : Row) → Contains (rows_in part t) row → Contains (rows_in whole t) row
  pub of_rest : (t : TableId) (row : Row) → Contains (rows_in rest t) row → Contains (rows_in whole t) row
  pub apart : (t : TableId) (row other : Row) → Contains (rows_in part t) row → Contains (rows_in rest t) other → ¬ (key_in store t row ≡ key_in store t other)
  pub once : (t : TableId) (row other : Row) → Contains (rows_in rest t) row → Contains (rows_in rest t) other → key_in store t row ≡ key_in store t other → row ≡ other

-- two tables that are put together with one rest
pub record AreWithOneRest (store : StoreModel) (part_before part_after rest before after : Tables) : Type 0 where
  pub old : AreJoined store part_before rest before
  pub new : AreJoined store part_after rest after
