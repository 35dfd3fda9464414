-- The columns of tables, as they are known by their names.
-- Source: SSDL version 3, the names of properties.
use Rattle.std.specs.Prelude.{◌≡◌, ◌↔◌, ℕ, List, IsTrue, map}
use Rattle.round_trip.specs.Words.{Column, Table, At}
use Rattle.emc_base.specs.Lists.{AreApart}
use Rattle.groupings.specs.name_places.GivenNames.{first_place}
use Rattle.groupings.specs.name_places.PlacesIn.{place_in}
use Rattle.schema_names.specs.declared.columns.TableColumns.{TableColumns}

-- where the name of each of these columns is given first, and whether their names are apart
pub record IsOfColumns (cols : List Column) (known : TableColumns) : Type 0 where
  pub places : place_in known.places ≡ first_place (λ col. col.name) cols
  pub apart : IsTrue known.apart ↔ AreApart (map (λ col. col.name) cols)

-- the same of the columns of each table
pub record AreColumnsOf (tables : List Table) (columns : List TableColumns) : Type 0 where
  pub places : map (λ known. place_in known.places) columns ≡ map (λ table. first_place (λ col. col.name) table.cols) tables
  pub apart : (t : ℕ) (table : Table) (known : TableColumns) → At tables t table → At columns t known
      → IsTrue known.apart ↔ AreApart (map (λ col. col.name) table.cols)
