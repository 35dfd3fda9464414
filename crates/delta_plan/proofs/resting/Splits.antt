-- Tables of which a part is asked for: what is left of them stays.
use Rattle.std.proofs.Common.{◌≡◌, ◌≢◌, ◌==◌, ◌⊎◌, ⊎_elim, inl, inr, List, filter, Bool, true, false, AllPairs, Contains, refl, sym, subst}
use Rattle.emc_base.proofs.FoundItems.{contains_flat_map}
use Rattle.emc_base.proofs.Joined.{in_flat_map}
use Rattle.emc_base.proofs.Mapped.{contains_filter, contains_map}
use Rattle.emc_base.proofs.Numbered.{filter_contains, map_contains}
use Rattle.round_trip.specs.Words.{EntityModel, Row, State, StoreModel, TableId, Tables, rows_in}
use Rattle.table_files.specs.declared.tables.TableRow.{TableRow}
use Rattle.keyed_rows.specs.row_differences.SameButFree.{HaveRowsApart}
use Rattle.cells.specs.declared.cells.Cells.{Cells}
use Rattle.row_changes.specs.Changes.{key_in}
use Rattle.entity_changes.specs.declared.touched.Touched.{Touched}
use Rattle.entity_changes.specs.Touching.{DifferOnlyAt}
use Rattle.delta_plan.specs.RowsOf.{AreTablesOf, Giving, named, rows_of, touched_rows, unit_rows}
use Rattle.delta_plan.specs.Units.{Unit, is_touched, units_of}
use Rattle.delta_plan.proofs.resting.Asked.{part_is, part_within, rows_are}
use Rattle.delta_plan.proofs.resting.Shares.{apart_units}
use Rattle.delta_plan.proofs.resting.Staying.{differ_back, stays}

-- each row is asked for or stays, and no row that is asked for has the key of one that stays
pub record IsSplit (store : StoreModel) (Stays : TableId → Row → Type 0) (rows asked : Tables) : Type 0 where
  pub either : (t : TableId) (row : Row) → Contains (rows_in rows t) row → Contains (rows_in asked t) row ⊎ Stays t row
  pub of_asked : (t : TableId) (row : Row) → Contains (rows_in asked t) row → Contains (rows_in rows t) row
  pub of_stays : (t : TableId) (row : Row) → Stays t row → Contains (rows_in rows t) row
  pub apart : (t : TableId) (row other : Row) → Contains (rows_in asked t) row → Stays t other → key_in store t row ≢ key_in store t other

-- what stays may be told in other words
pub told_so : (store : StoreModel) (Stays Other : TableId → Row → Type 0) (rows asked : Tables) → ((t : TableId) (row : Row) → Stays t row → Other t row)
    → ((t : TableId) (row : Row) → Other t row → Stays t row) → IsSplit store Stays rows asked → IsSplit store Other rows asked
told_so store Stays Other rows asked forth back split = record {
  either = λ t row has. ⊎_elim (λ (part : Contains (rows_in asked t) row). inl part) (λ (still : Stays t row). inr (forth t row still))
      (split.either t row has);
  of_asked = split.of_asked;
  of_stays = λ t row still. split.of_stays t row (back t row still);
  apart = λ t row other has still. split.apart t row other has (back t other still);
}

module _ (gives : Giving) (model : EntityModel) (cells : Cells) (touched : Touched) where
  -- a unit of the state that isn't touched gives the row
  pub record Stays (state : State) (t : TableId) (row : Row) : Type 0 where
    pub unit : Unit
    pub there : Contains (units_of state) unit
    pub untouched : is_touched model touched unit ≡ false
    pub gave : Contains (named t (unit_rows gives model cells state unit)) row

  module _ (state : State) (store : StoreModel) (rows : Tables) (are : AreTablesOf store (rows_of gives model cells state) rows)
      (apart : HaveRowsApart store rows)
      (asked : Tables) (same : (t : TableId) → rows_in asked t ≡ named t (touched_rows gives model cells state touched)) where
    abbrev given : TableId → Unit → List Row
    given t unit = named t (unit_rows gives model cells state unit)

    -- the tables of a state, and those of what is touched in it
    pub split : IsSplit store (Stays state) rows asked
    split = record {
      either = λ t row has.
          (let from = in_flat_map (given t) (units_of state) row (subst (λ (list : List Row). Contains list row)
          (rows_are gives model cells state store rows are t) has) in
          by t row from.0 from.1 from.2 (is_touched model touched from.0) refl);
      of_asked = part_within gives model cells state store rows are touched asked same;
      of_stays = λ t row still. subst (λ (list : List Row). Contains list row) (sym (rows_are gives model cells state store rows are t))
          (contains_flat_map (given t) (units_of state) still.unit row still.there still.gave);
      apart = λ t row other has still.
          (let Apart : Row → Row → Type 0 = λ one two. key_in store t one ≢ key_in store t two in
          apart_units Apart (given t) (λ one two differ is. differ (sym is)) (is_touched model touched) (units_of state)
          (subst (AllPairs Apart) (rows_are gives model cells state store rows are t) (apart t))
          row (subst (λ (list : List Row). Contains list row) (part_is gives model cells state store rows are touched asked same t) has)
          still.unit still.there still.untouched other still.gave);
    }
      where
        by : (t : TableId) (row : Row) (unit : Unit) → Contains (units_of state) unit → Contains (given t unit) row → (b : Bool)
            → is_touched model touched unit ≡ b
            → Contains (rows_in asked t) row ⊎ Stays state t row
        by t row unit there gave true is = inl (subst (λ (list : List Row). Contains list row)
            (sym (part_is gives model cells state store rows are touched asked same t))
            (contains_flat_map (given t) (filter (is_touched model touched) (units_of state)) unit row
            (contains_filter (is_touched model touched) (units_of state) unit there is) gave))
        by t row unit there gave false is = inr (record { unit = unit; there = there; untouched = is; gave = gave })

  -- what stays of a state stays of one that differs only at what is touched
  pub stays_there : (old new : State) → DifferOnlyAt model cells touched old new → (t : TableId) (row : Row) → Stays old t row → Stays new t row
  stays_there old new differ t row still =
      let names : TableRow → Bool = λ one. one.table.index == t.index in
      let from = map_contains (λ (one : TableRow). one.row) (filter names (unit_rows gives model cells old still.unit)) row still.gave in
      let own = filter_contains names (unit_rows gives model cells old still.unit) from.0 from.1 in
      let now = stays gives model cells touched old new differ still.unit still.untouched still.there from.0 own.0 in
      record {
        unit = still.unit;
        there = now.0;
        untouched = still.untouched;
        gave = subst (Contains (named t (unit_rows gives model cells new still.unit))) from.2
            (contains_map (λ (one : TableRow). one.row) (filter names (unit_rows gives model cells new still.unit)) from.0
            (contains_filter names (unit_rows gives model cells new still.unit) from.0 now.1 own.1));
      }

  -- and the other way round
  pub stayed : (old new : State) → DifferOnlyAt model cells touched old new → (t : TableId) (row : Row) → Stays new t row → Stays old t row
  stayed old new differ = stays_there new old (differ_back model cells touched old new differ)
