-- A link by the keys at its ends.
-- Source: CSDL version 3, AssociationSet.
use Rattle.std.specs.Prelude.{List}
use Rattle.round_trip.specs.Words.{Value, Link}

-- the link of two keys
abbrev pub link_of : List Value × List Value → Link
link_of pair = record { first = pair.0; second = pair.1 }
