-- Each rule of tables tells one place at a spot.
use Rattle.std.proofs.Common.{◌≡◌, ℕ, List, [], ◌∷◌, false}
use Rattle.round_trip.specs.Types.{place_at, StoreModel, Table, Column, ForeignKey, Row, Tables, rows_in, row_key}
use Rattle.round_trip.specs.legality.TableBreaches.{RowStandsIn, StandsAtColumn, BreaksNullCell, BreaksCellDomain, BreaksRowKey, BreaksForeignKey, BreaksTableRule}
use Rattle.round_trip.proofs.FirstBreach.{TellsOne, StandsSome, null_told, domain_told, TellsOneFrom, last_rule, before_rules}
use Rattle.round_trip.proofs.AtPlaces.{StandAt, told_with, told_at}

module _ (store : StoreModel) (tables : Tables) where
  abbrev rows : ℕ → Table → List Row
  rows t table = rows_in tables (record { index = t })

  module _ (spot : List ℕ) where
    row_at : {rest : List ℕ} {t i : ℕ} {table : Table} {row : Row} → RowStandsIn store tables t table i row → spot ≡ t ∷ i ∷ rest
        → StandAt store.tables rows spot table row
    row_at {rest = rest} {t = t} {i = i} stands begins = record { n = t; i = i; rest = rest; item = stands.is_table; member = stands.is_row; begins = begins }

    column_told : TellsOne (StandsSome (StandsAtColumn store tables spot))
    column_told x y one two =
        told_with store.tables rows (λ table row (column : Column). place_at table.name (row_key table row) column.name) one.1 two.1
        (row_at one.2.stands one.2.spot_is) (row_at two.2.stands two.2.spot_is) (λ same_table same_row. cc) one.2.place_is two.2.place_is

    key_told : TellsOne (BreaksRowKey store tables spot)
    key_told = told_at store.tables rows spot (λ table row. place_at table.name (row_key table row) []) (BreaksRowKey store tables spot)
        (λ place breaks. (breaks.table, breaks.row, row_at breaks.stands breaks.spot_is, breaks.place_is))

    foreign_key_told : TellsOne (BreaksForeignKey store tables spot)
    foreign_key_told x y one two =
        told_with store.tables rows (λ table row (key : ForeignKey). place_at table.name (row_key table row) key.name) one.key two.key
        (row_at one.stands one.spot_is) (row_at two.stands two.spot_is) (λ same_table same_row. cc) one.place_is two.place_is

    rules : TellsOneFrom 1 (λ rule. BreaksTableRule store tables rule spot)
    rules =
        before_rules 1 (BreaksNullCell store tables spot) (null_told (StandsAtColumn store tables spot) column_told (λ column. column.nullable ≡ false)) _
        (before_rules 2 (BreaksCellDomain store tables spot) (domain_told (StandsAtColumn store tables spot) column_told (λ column. column.kind)) _
        (before_rules 3 (BreaksRowKey store tables spot) key_told _
        (last_rule 4 (BreaksForeignKey store tables spot) foreign_key_told)))

  pub table_rules_tell_one : (rule : ℕ) (spot : List ℕ) → TellsOne (BreaksTableRule store tables rule spot)
  table_rules_tell_one rule spot = (rules spot).one rule
