-- Seats: a key of two parts, the row of a seat and its number there. The table's key has them the other way round.
use Rattle.std.specs.Prelude.{ℤ, pos, [], ◌∷◌, None, codes}
use Rattle.round_trip.specs.Words.{Whole, EntityModel, EntityType, Prop, EntitySet, StoreModel, Table, Fragment, Schema, Entity, Row, State, Tables, IsLegal, AreLegalTables, DemandsRow, TablesAre, Satisfies}
use Rattle.emc_base.specs.declared.value.Kind.TheVariants as kind
use Rattle.worked_examples.specs.Ids.{type_id, prop_id, table_id, col_id, needed, needed_column, set_of, pair_of, entity_of, row_of, leaf, concrete_type, model_of}
use Rattle.worked_examples.specs.people.People.{people_fragment, only_people, only_rows}

abbrev pub row_prop : Prop
row_prop = needed (type_id 0) (codes "Row") kind.Int32

abbrev pub number_prop : Prop
number_prop = needed (type_id 0) (codes "Number") kind.Int32

abbrev pub seat_type : EntityType
seat_type = concrete_type (codes "Seat") None (prop_id 0 ∷ prop_id 1 ∷ []) (prop_id 0 ∷ prop_id 1 ∷ [])

abbrev pub seats_set : EntitySet
seats_set = set_of (codes "Seats") (type_id 0)

abbrev pub seats_model : EntityModel
seats_model = model_of (seat_type ∷ []) (row_prop ∷ number_prop ∷ []) (leaf (type_id 0) ∷ []) (seats_set ∷ []) []

abbrev pub seats_table : Table
seats_table = record {
  name = codes "Seats";
  cols = needed_column (codes "Row") kind.Int32 ∷ needed_column (codes "Number") kind.Int32 ∷ [];
  key = col_id 1 ∷ col_id 0 ∷ [];
}

abbrev pub seats_store : StoreModel
seats_store = record { namespace = codes "S"; container = codes "D"; tables = seats_table ∷ []; keys = [] }

-- the first fragment, as that of people
abbrev pub all_seats : Fragment
all_seats = people_fragment (pair_of 0 0 ∷ pair_of 1 1 ∷ []) []

abbrev pub seats : Schema
seats = record { model = seats_model; store = seats_store; mapping = record { fragments = all_seats ∷ []; links = [] } }

abbrev pub seat : ℤ → ℤ → Entity
seat row number = entity_of (type_id 0) (Whole row ∷ Whole number ∷ [])

abbrev pub seat_row : ℤ → ℤ → Row
seat_row row number = row_of (Whole row ∷ Whole number ∷ [])

-- the seats 2 and 3 of row 1
abbrev pub two_seats : State
two_seats = only_people (seat (pos 1) (pos 2) ∷ seat (pos 1) (pos 3) ∷ [])

abbrev pub seat_rows : Tables
seat_rows = only_rows (seat_row (pos 1) (pos 2) ∷ seat_row (pos 1) (pos 3) ∷ [])

abbrev pub SeatsAreLegal : Type 0
SeatsAreLegal = IsLegal seats_model two_seats

-- the number stands first in the key of a row
abbrev pub SeatsAreKeyed : Type 0
SeatsAreKeyed = DemandsRow seats two_seats (table_id 0) (Whole (pos 2) ∷ Whole (pos 1) ∷ []) × DemandsRow seats two_seats (table_id 0) (Whole (pos 3) ∷ Whole (pos 1) ∷ [])

abbrev pub SeatsAreStored : Type 0
SeatsAreStored = TablesAre seats two_seats seat_rows

abbrev pub SeatRowsAreLegal : Type 0
SeatRowsAreLegal = AreLegalTables seats_store seat_rows

abbrev pub SeatRowsSatisfy : Type 0
SeatRowsSatisfy = Satisfies seats two_seats seat_rows
