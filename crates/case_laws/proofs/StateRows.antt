-- The rows of tables that are those of a state, but for their free cells.
use Rattle.std.proofs.Common.{◌≡◌, ℕ, Contains, sym, subst, ◌∙◌}
use Rattle.std.specs.List.{AllZip}
use Rattle.graphs.proofs.base_chains.orders.Orders.{place_of_member}
use Rattle.emc_base.proofs.Lists.{at_once, same_place}
use Rattle.emc_base.proofs.Mapped.{contains_at}
use Rattle.emc_base.proofs.facts.Zipped.{zipped_left, zipped_right}
use Rattle.round_trip.specs.Words.{TableId, IsErasedRow, IsFree, IsWritten, Row, State, Table, Tables, At, cell_of, row_key, rows_in}
use Rattle.schema_laws.proofs.state_demand.lists.Places.{map_agree}
use Rattle.schema_laws.proofs.state_demand.tables.ReadBack.{rows_demanded}
use Rattle.regions.specs.Basis.{Basis}
use Rattle.regions.specs.region_laws.IsBasis.{IsBasis}
use Rattle.case_laws.specs.Reading.{HasStateTables}
use Rattle.case_laws.proofs.shown.Settling.{key_named}

module _ (basis : Basis) (is : IsBasis basis) (state : State) (tables : Tables) (has : HasStateTables basis.schema state tables) (t : TableId) where
  abbrev Erases : Row → Row → Type 0
  Erases = IsErasedRow (IsFree basis.schema t)

  abbrev zipped : AllZip Erases (rows_in tables t) (rows_in has.erased t)
  zipped = has.are_erased.rows t

  -- each row is one of the state's, but for its free cells
  pub erased_row : (held : Row) → Contains (rows_in tables t) held → (row : Row) × Contains (rows_in has.erased t) row × Erases held row
  erased_row held among =
      let found = zipped_left Erases (rows_in tables t) (rows_in has.erased t) zipped among.0 held (place_of_member (rows_in tables t) held among) in
      (found.0, contains_at (rows_in has.erased t) among.0 found.0 found.1, found.2)

  -- and the other way
  pub held_row : (row : Row) → Contains (rows_in has.erased t) row → (held : Row) × Contains (rows_in tables t) held × Erases held row
  held_row row among =
      let found = zipped_right Erases (rows_in tables t) (rows_in has.erased t) zipped among.0 row (place_of_member (rows_in has.erased t) row among) in
      (found.0, contains_at (rows_in tables t) among.0 found.0 found.1, found.2)

  module _ (table : Table) (is_table : At basis.schema.store.tables t.index table) (written : IsWritten basis.schema.mapping t) where
    -- of one key
    pub key_kept : (held row : Row) → Erases held row → row_key table held ≡ row_key table row
    key_kept held row erases = map_agree (cell_of held) (cell_of row) table.key
        (λ col among. sym (erases.rest col (key_named basis is t table is_table written col among)))

    -- so no two have one key
    pub one_row : (one other : Row) → Contains (rows_in tables t) one → Contains (rows_in tables t) other → row_key table one ≡ row_key table other → one ≡ other
    one_row one other among too same =
        let first = zipped_left Erases (rows_in tables t) (rows_in has.erased t) zipped among.0 one (place_of_member (rows_in tables t) one among) in
        let second = zipped_left Erases (rows_in tables t) (rows_in has.erased t) zipped too.0 other (place_of_member (rows_in tables t) other too) in
        let alike : row_key table first.0 ≡ row_key table second.0 = sym (key_kept one first.0 first.2) ∙ same ∙ key_kept other second.0 second.2 in
        let place : among.0 ≡ too.0 = same_place (row_key table) (rows_in has.erased t) among.0 too.0 first.0 second.0
        (rows_demanded basis.schema state has.erased has.are t table is_table).once first.1 second.1 alike in
        let P : ℕ → Type 0 = λ i. At (rows_in tables t) i one in
        at_once (rows_in tables t) too.0 one other (subst P place (place_of_member (rows_in tables t) one among)) (place_of_member (rows_in tables t) other too)
