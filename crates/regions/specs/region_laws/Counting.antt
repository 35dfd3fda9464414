-- The number of regions, without the regions.
-- Source: this project's; the cells by which the mapping compiler of Melnik, Adya and Bernstein, SIGMOD 2007, divides entities.
use Rattle.std.specs.Prelude.{ℕ, ◌*◌, List, [], ◌∷◌, map, length, slice_get, sum_by}
use Rattle.std.specs.Option.{option_map_or}
use Rattle.round_trip.specs.Words.{SetId, TypeId}
use Rattle.regions.specs.Basis.{Basis}
use Rattle.regions.specs.Regions.{atoms_at, flags_at, model_of, tested_props, types_of}

-- the product of numbers
abbrev pub product_of : List ℕ → ℕ
product_of [] = 1
product_of (n ∷ rest) = n * product_of rest

module _ (basis : Basis) where
  -- of one type: the numbers of atoms of its tested properties and the numbers of values of flags, multiplied
  abbrev pub count_by : SetId → TypeId → ℕ
  count_by s t = product_of (map (λ p. length (atoms_at basis p)) (tested_props basis t)) * product_of (map (λ host. length (flags_at basis t host)) (basis.hosts s))

  -- of the set: the sum over its concrete types
  abbrev pub counted : SetId → ℕ
  counted s = option_map_or (λ set. sum_by (count_by s) (types_of basis set)) (slice_get (model_of basis).sets s.index) 0
