-- Two seats of one row: their keys differ in the number, which stands first in the key of the table.
use Rattle.std.proofs.Common.{◌≡◌, inl, inr, ℕ, ◌≤◌, List, [], ◌∷◌, refl, arith}
use Rattle.std.specs.Prelude.{Contains, pos, false}
use Rattle.std.specs.List.{AllByRecursion}
use Rattle.std.proofs.lemmas.List.Elements.{All-nil}
use Rattle.round_trip.specs.Words.{TableId, Value, Whole, Entity, Row, cell_of, MetByEntity, Selects, Writing, Writes, WritesRow}
use Rattle.worked_examples.specs.Ids.{type_id, table_id, just, row_of}
use Rattle.worked_examples.specs.Seats.{seats, seats_model, seats_set, seats_store, seats_table, all_seats, seat, seat_row, two_seats, seat_rows, SeatsAreLegal, SeatsAreKeyed, SeatsAreStored, SeatRowsAreLegal, SeatRowsSatisfy}
use Rattle.worked_examples.proofs.facts.Small.{PairsByRecursion}
use Rattle.worked_examples.proofs.facts.Values.{whole_fits}
use Rattle.worked_examples.proofs.facts.Entities.{MayStand, two_values_stand}
use Rattle.worked_examples.proofs.facts.Writings.{entity_writing, each_writing, each_given}
use Rattle.worked_examples.proofs.facts.States.{legal_set_alone}
use Rattle.worked_examples.proofs.facts.LegalRows.{FitsTable, HaveOwnRowKeys, legal_rows, legal_tables}
use Rattle.worked_examples.proofs.facts.KeyedRows.{IsInItsRow, IsDemandedRow, HasItsRow, all_rows_stored}
use Rattle.worked_examples.proofs.facts.Agreement.{meets_none, Agrees, agrees, satisfied_by_parts}

-- a seat of row 1, what it writes, and its row
abbrev numbered : ℕ → Entity
numbered number = seat (pos 1) (pos number)

abbrev of_seat : ℕ → Writing
of_seat number = entity_writing seats all_seats (numbered number)

abbrev row : ℕ → Row
row number = seat_row (pos 1) (pos number)

abbrev both_seats : List Entity
both_seats = numbered 2 ∷ numbered 3 ∷ []

abbrev rows : List Row
rows = row 2 ∷ row 3 ∷ []

stands : (number : ℕ) → number ≤ 2147483647 → MayStand seats_model seats_set (numbered number)
stands number below = two_values_stand (Whole (pos 1)) (Whole (pos number)) (whole_fits false 1 (omega arith)) (whole_fits false number below)

both_stand : AllByRecursion (MayStand seats_model seats_set) both_seats
both_stand = (stands 2 (omega arith), (stands 3 (omega arith), tt))

pub legal : SeatsAreLegal
legal = legal_set_alone seats_model seats_set both_seats refl refl both_stand (((λ equal. absurd (cc)), tt), (tt, tt))

selected : (number : ℕ) → Selects seats_model all_seats (numbered number)
selected number = record { picked = (0, just (type_id 0), omega arith, refl, refl); meets = All-nil (λ cond. MetByEntity seats_model (numbered number) cond.on cond.test) }

each : (Q : Writing → Type 0) → Q (of_seat 2) → Q (of_seat 3) → (writing : Writing) → Writes seats two_seats writing → Q writing
each Q first second writing by = each_writing seats two_seats Q (((λ s. first), ((λ s. second), tt)), tt) tt writing by

-- the row of a key, which has the number first
abbrev row_for : TableId → List Value → Row
row_for t (number ∷ place ∷ rest) = row_of (place ∷ number ∷ [])
row_for t _ = row_of []

in_row : (number : ℕ) → IsInItsRow seats two_seats row_for (of_seat number)
in_row number col value gives = each_given (of_seat number) (λ c v. v ≡ cell_of (row number) c) (refl, (refl, tt)) tt col value gives

in_rows : (writing : Writing) → Writes seats two_seats writing → IsInItsRow seats two_seats row_for writing
in_rows writing by = each (IsInItsRow seats two_seats row_for) (in_row 2) (in_row 3) writing by

writes : (number : ℕ) → Contains both_seats (numbered number) → WritesRow seats two_seats (table_id 0) (Whole (pos number) ∷ Whole (pos 1) ∷ []) (of_seat number)
writes number among = record {
  writes = inl (all_seats, numbered number, record { mapped = (0, omega arith, refl); stands = among; selected = selected number }, refl);
  to_table = refl;
  to_key = refl;
}

pub keyed : SeatsAreKeyed
keyed = ((of_seat 2, writes 2 (0, omega arith, refl)), (of_seat 3, writes 3 (1, omega arith, refl)))

demanded : (number : ℕ) → Contains both_seats (numbered number) → IsDemandedRow seats two_seats row_for in_rows (table_id 0) seats_table (row number)
demanded number among = record {
  demanded = (of_seat number, writes number among);
  for_key = refl;
  cells = (inr (of_seat number, writes number among, inl (0, omega arith, refl)), (inr (of_seat number, writes number among, inl (1, omega arith, refl)), tt));
}

found : (writing : Writing) → Writes seats two_seats writing → HasItsRow seats two_seats row_for in_rows (table_id 0) seats_table rows writing
found writing by = each (HasItsRow seats two_seats row_for in_rows (table_id 0) seats_table rows)
    (λ to. (0, row 2, omega arith, refl, refl)) (λ to. (1, row 3, omega arith, refl, refl)) writing by

own : PairsByRecursion (HaveOwnRowKeys seats_table) rows
own = (((λ equal. absurd (cc)), tt), (tt, tt))

pub stored : SeatsAreStored
stored = all_rows_stored seats two_seats row_for in_rows seats_table rows (record {
  is_table = refl;
  made = (demanded 2 (0, omega arith, refl), (demanded 3 (1, omega arith, refl), tt));
  found = found;
  own = own;
  count = (refl, (refl, tt));
})

fits : (number : ℕ) → number ≤ 2147483647 → FitsTable seats_table (row number)
fits number below = (whole_fits false 1 (omega arith), (whole_fits false number below, tt))

pub rows_legal : SeatRowsAreLegal
rows_legal = legal_tables seats_store seat_rows stored.shape (legal_rows seats_table rows (fits 2 (omega arith), (fits 3 (omega arith), tt)) own, tt) tt

seats_agree : Agrees seats two_seats seat_rows all_seats
seats_agree = agrees seats two_seats seat_rows all_seats
    ((λ s. (row 2, (0, omega arith, refl), meets_none (row 2), refl)), ((λ s. (row 3, (1, omega arith, refl), meets_none (row 3), refl)), tt))
    ((λ s. (numbered 2, (0, omega arith, refl), selected 2, refl)), ((λ s. (numbered 3, (1, omega arith, refl), selected 3, refl)), tt))

pub satisfied : SeatRowsSatisfy
satisfied = satisfied_by_parts seats two_seats seat_rows (seats_agree, tt) tt
