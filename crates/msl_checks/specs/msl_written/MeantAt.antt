-- What the pairs of a list stand for, as it was looked up.
use Rattle.std.specs.Prelude.{ℕ, List, Option, slice_get}
use Rattle.std.specs.Option.{option_and_then}
use Rattle.round_trip.specs.Words.{Pair}

-- what the pair at a place stands for
abbrev pub meant_at : List (Option Pair) → ℕ → Option Pair
meant_at each place = option_and_then (λ found. found) (slice_get each place)
