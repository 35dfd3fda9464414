-- The rows of kept tables of a legal state break no rule but that of foreign keys.
use Rattle.std.proofs.Common.{◌≡◌, ◌≢◌, ◌⊎◌, ⊎_elim, ℕ, List, AllPairs, Contains, IsTrue, sym, ap, subst, ◌∙◌}
use Rattle.std.proofs.lemmas.Bool.{true≢false}
use Rattle.std.proofs.lemmas.List.Elements.{All-contains}
use Rattle.std.proofs.lemmas.Option.{get_or_from_slice_get, slice_get_within}
use Rattle.emc_base.proofs.Lists.{all_from_members}
use Rattle.emc_base.proofs.Mapped.{contains_at}
use Rattle.round_trip.specs.Words.{AreLegalTables, At, Breach, ColId, Column, InDomain, IsKeptRow, KeepsFree, Null, Place, Row, StoreModel, Table, TableId, Tables, Value, cell_of, row_key, rows_in}
use Rattle.round_trip.specs.legality.TableBreaches.{BreaksCellDomain, BreaksForeignKey, BreaksNullCell, BreaksRowKey, IsBreachOfTables}
use Rattle.delta_plan.proofs.grouped.Keyed.{rising_apart}
use Rattle.delta_plan.proofs.resting.Alike.{beside_right}
use Rattle.mapping_core.specs.states.Saves.{AreInKeyOrder}

-- what no old row and no fresh one has in a column no kept one has
module _ (Free : ColId → Type 0) (table : Table) (old : List Row) (one kept : Row) (keeps : IsKeptRow Free table old one kept) (col : ColId) (Bad : Value → Type 0)
    (old_fine : (row : Row) → Contains old row → ¬ Bad (cell_of row col)) (one_fine : ¬ Bad (cell_of one col)) where
  where_free : Bad (cell_of kept col) → ¬ Free col
  where_free bad free = one_fine (subst Bad (keeps.new
      (all_from_members (λ (before : Row). row_key table before ≢ row_key table one) old (λ before has same. old_fine before has (subst Bad
      (All-contains (λ (row : Row). row_key table row ≡ row_key table one → (c : ColId) → Free c → cell_of kept c ≡ cell_of row c) old before keeps.stays has same col free) bad)))
      col free) bad)

  fine : ¬ Bad (cell_of kept col)
  fine bad = one_fine (subst Bad (keeps.rest col (where_free bad)) bad)

module _ (store : StoreModel) (Free : TableId → ColId → Type 0) (tables fresh kept : Tables) (legal : AreLegalTables store tables) (legal_fresh : AreLegalTables store fresh)
    (keeps : KeepsFree store Free tables fresh kept) (in_order : AreInKeyOrder store kept) where
  -- of a row of the kept tables
  no_bad_cell : (t : TableId) (table : Table) → At store.tables t.index table → (row : Row) → Contains (rows_in kept t) row → (col : ColId) (Bad : Value → Type 0)
      → ((other : Row) → Contains (rows_in tables t) other → ¬ Bad (cell_of other col)) → ((other : Row) → Contains (rows_in fresh t) other → ¬ Bad (cell_of other col))
      → ¬ Bad (cell_of row col)
  no_bad_cell t table at row has col Bad old_fine fresh_fine =
      let beside = beside_right (IsKeptRow (Free t) table (rows_in tables t)) (rows_in fresh t) (rows_in kept t) (keeps.rows t table at) row has in
      fine (Free t) table (rows_in tables t) beside.0 row beside.2 col Bad old_fine (fresh_fine beside.0 beside.1)

  no_null : (spot : List ℕ) (place : Place) → BreaksNullCell store kept spot place → ⊥
  no_null spot place (column, at, strict) =
      let t : TableId = record { index = at.t } in
      let col : ColId = record { index = at.j } in
      let IsNull : Value → Type 0 = λ value. value ≡ Null in
      let fine_in : (some : Tables) → AreLegalTables store some → (row : Row) → Contains (rows_in some t) row → ¬ IsNull (cell_of row col) =
      λ some are row has null. true≢false (sym (All-contains (λ (one : Row). (c : ColId) (column : Column) → At at.table.cols c.index column → cell_of one c ≡ Null → IsTrue column.nullable)
      (rows_in some t) row (are.rows t at.table at.stands.is_table).nulls has col column at.is_column null) ∙ strict) in
      no_bad_cell t at.table at.stands.is_table at.row (contains_at (rows_in kept t) at.i at.row at.stands.is_row) col IsNull (fine_in tables legal) (fine_in fresh legal_fresh) (sym at.value_is)

  no_foreign_value : (spot : List ℕ) (place : Place) → BreaksCellDomain store kept spot place → ⊥
  no_foreign_value spot place (value, column, at, some, outside) =
      let t : TableId = record { index = at.t } in
      let col : ColId = record { index = at.j } in
      let IsOutside : Value → Type 0 = λ one. (one ≢ Null) × ¬ InDomain one column.kind in
      let fine_in : (some : Tables) → AreLegalTables store some → (row : Row) → Contains (rows_in some t) row → ¬ IsOutside (cell_of row col) =
      λ some are row has bad. ⊎_elim (λ (null : cell_of row col ≡ Null). bad.0 null) (λ (inside : InDomain (cell_of row col) column.kind). bad.1 inside)
      (All-contains (λ (one : Row). (c : ColId) (column : Column) → At at.table.cols c.index column → (cell_of one c ≡ Null) ⊎ InDomain (cell_of one c) column.kind)
      (rows_in some t) row (are.rows t at.table at.stands.is_table).domains has col column at.is_column) in
      no_bad_cell t at.table at.stands.is_table at.row (contains_at (rows_in kept t) at.i at.row at.stands.is_row) col IsOutside (fine_in tables legal) (fine_in fresh legal_fresh)
      (subst IsOutside at.value_is (some, outside))

  no_row_twice : (spot : List ℕ) (place : Place) → BreaksRowKey store kept spot place → ⊥
  no_row_twice spot place two =
      let t : TableId = record { index = two.t } in
      let rows : List Row = rows_in kept t in
      let apart : AllPairs (λ row other. row_key two.table row ≢ row_key two.table other) rows = rising_apart two.table.key rows (in_order t two.table two.stands.is_table) in
      apart two.earlier two.i two.row two.before (slice_get_within rows two.i two.row two.stands.is_row)
      (ap (row_key two.table) (get_or_from_slice_get rows two.earlier two.other two.row two.other_stands.is_row) ∙ two.same
      ∙ sym (ap (row_key two.table) (get_or_from_slice_get rows two.i two.row two.row two.stands.is_row)))

  -- the first rule that they break is that of foreign keys
  pub only_references : (breach : Breach) → IsBreachOfTables store kept breach → IsBreachOfTables store kept (record { rule = 4; place = breach.place })
  only_references breach is = subst (IsBreachOfTables store kept) (λ i. record { rule = fourth i; place = breach.place }) is
    where
      fourth : breach.rule ≡ 4
      fourth = ⊎_elim
          (λ (first : (breach.rule ≡ 1) × BreaksNullCell store kept is.spot breach.place). absurd (no_null is.spot breach.place first.1))
          (λ (rest : ((breach.rule ≡ 2) × BreaksCellDomain store kept is.spot breach.place) ⊎ ((breach.rule ≡ 3) × BreaksRowKey store kept is.spot breach.place)
          ⊎ ((breach.rule ≡ 4) × BreaksForeignKey store kept is.spot breach.place)). ⊎_elim
          (λ (second : (breach.rule ≡ 2) × BreaksCellDomain store kept is.spot breach.place). absurd (no_foreign_value is.spot breach.place second.1))
          (λ (last : ((breach.rule ≡ 3) × BreaksRowKey store kept is.spot breach.place) ⊎ ((breach.rule ≡ 4) × BreaksForeignKey store kept is.spot breach.place)). ⊎_elim
          (λ (third : (breach.rule ≡ 3) × BreaksRowKey store kept is.spot breach.place). absurd (no_row_twice is.spot breach.place third.1))
          (λ (fourth : (breach.rule ≡ 4) × BreaksForeignKey store kept is.spot breach.place). fourth.0) last) rest) is.broken
