-- What update views keep, as they are made.
-- Source: the update views of Melnik, Adya and Bernstein, SIGMOD 2007; where this project's profile lets links stand.
use Rattle.std.specs.Prelude.{◌≡◌, ℕ, List, map, length, slice_get, unwrap_or, Option, None}
use Rattle.std.specs.List.{enumerate_from}
use Rattle.round_trip.specs.Words.{SetId, Assoc, At}
use Rattle.table_owners.specs.declared.places.LinkPlace.{LinkPlace}
use Rattle.table_owners.specs.declared.places.LinkPlace.TheVariants as place
use Rattle.regions.specs.Basis.{Basis}
use Rattle.regions.specs.Regions.{regions_of}
use Rattle.update_views.specs.region_table.Finds.{Finds}
use Rattle.update_views.specs.view_rows.Made.{first_link_row, rows_of_region}
use Rattle.update_views.specs.declared.view_rows.link_rows.LinkRow.{LinkRow}
use Rattle.update_views.specs.declared.views.SetView.{SetView}

-- the view of a set finds the place of an entity's region, and has the rows of each region
pub record IsSetView (basis : Basis) (s : SetId) (view : SetView) : Type 0 where
  pub finds : Finds basis s view.regions
  pub rows : view.rows ≡ map (rows_of_region basis) (regions_of basis s)

-- there is such a view of each set
pub record AreSetViews (basis : Basis) (views : List SetView) : Type 0 where
  pub count : length views ≡ length basis.schema.model.sets
  pub each : (s : SetId) (view : SetView) → At views s.index view → IsSetView basis s view

-- the row of the links of a numbered association, where they are told to have rows of their own
abbrev pub joined_where : Basis → ℕ × Assoc → LinkPlace → Option LinkRow
joined_where basis entry (place.Joined number) = first_link_row basis (record { index = entry.0 }) entry.1
joined_where basis entry _ = None

abbrev pub joined_by : Basis → List LinkPlace → ℕ × Assoc → Option LinkRow
joined_by basis places entry = joined_where basis entry (unwrap_or (slice_get places entry.0) place.Unmapped)

-- there is one of each association
abbrev pub AreJoinedRows : Basis → List LinkPlace → List (Option LinkRow) → Type 0
AreJoinedRows basis places rows = rows ≡ map (joined_by basis places) (enumerate_from 0 basis.schema.model.assocs)
