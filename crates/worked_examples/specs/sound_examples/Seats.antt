-- Seats: two fragments that write the two parts of the key to the two columns of the table's key, in one way and in the other.
use Rattle.std.specs.Prelude.{[], ◌∷◌, codes}
use Rattle.round_trip.specs.Words.{Fragment, Schema}
use Rattle.worked_examples.specs.Ids.{type_id, set_id, table_id, pair_of, just}
use Rattle.worked_examples.specs.Seats.{seats_model, seats_store, all_seats}

-- a seat's row is written to the number's column, and its number to the row's
abbrev pub swapped_seats : Fragment
swapped_seats = record {
  place = codes "/EntityContainerMapping/EntitySetMapping/0/EntityTypeMapping/0/MappingFragment/1";
  set = set_id 0;
  picks = just (type_id 0) ∷ [];
  table = table_id 0;
  pairs = pair_of 0 1 ∷ pair_of 1 0 ∷ [];
  conds = [];
}

abbrev pub swapped : Schema
swapped = record { model = seats_model; store = seats_store; mapping = record { fragments = all_seats ∷ swapped_seats ∷ []; links = [] } }
