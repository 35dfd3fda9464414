-- The place of a region by the digits of an entity with the links that it hosts.
-- Source: this project's: numbers whose digits have bases of their own, the last one varying fastest, as the regions of a type stand.
use Rattle.std.specs.Prelude.{◌+◌, ◌*◌, ℕ, List, [], ◌∷◌, slice_get, Option, Some, option_map, option_and_then}
use Rattle.round_trip.specs.Words.{Entity, Hosted}
use Rattle.region_partition.specs.region_lists.Counts.{capped}
use Rattle.update_views.specs.declared.region_table.telling.Test.{Test}
use Rattle.update_views.specs.declared.region_table.numbering.RegionTable.{RegionTable}
use Rattle.update_views.specs.declared.region_table.numbering.TypeTests.{TypeTests}
use Rattle.update_views.specs.region_table.Digits.{digit_of, size_of}

module _ (entity : Entity) (links : List Hosted) where
  -- the number of the digits by these tests behind a number; None where one has none
  abbrev pub numbered : ℕ → List Test → Option ℕ
  numbered number [] = Some number
  numbered number (test ∷ tests) = option_and_then (λ digit. numbered (capped (number * size_of test + digit)) tests) (digit_of test entity links)

-- the place among the regions of the set, where the entity is of the type with these tests
abbrev pub place_by : TypeTests → Entity → List Hosted → Option ℕ
place_by made entity links = option_map (λ number. made.first + number) (numbered entity links 0 made.tests)

-- the place that a table tells; None where it has no tests of the entity's type, or the entity lacks a digit
abbrev pub place_in : RegionTable → Entity → List Hosted → Option ℕ
place_in table entity links =
    option_and_then (λ found. option_and_then (λ made. place_by made entity links) found) (slice_get table.types entity.ty.index)
