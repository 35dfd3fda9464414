-- The alterations of tables, one table after the other.
use Rattle.std.proofs.Common.{◌≡◌, ◌≢◌, ⊎_elim, ◌==◌, ℕ, ◌+◌, ◌<◌, ◌≤◌, true, List, [], ◌∷◌, ◌++◌, append-nil, length, map, All, AllPairs, Contains, Option, None, Some, refl, sym, ap, subst, ◌∙◌, arith}
use Rattle.std.specs.List.{flat_map}
use Rattle.std.specs.Option.{option_map_or}
use Rattle.std.proofs.lemmas.Bool.{cases_eq, eqb-true}
use Rattle.std.proofs.lemmas.List.Elements.{All-append, All-contains, All-weaker, Contains-append_left, Contains-append_right}
use Rattle.emc_base.proofs.Joined.{apart-append}
use Rattle.emc_base.proofs.Lists.{all_from_members, item_at}
use Rattle.edm_types.proofs.Lookups.{same_table}
use Rattle.emc_base.proofs.Mapped.{contains_at}
use Rattle.emc_base.proofs.Members.{contains_nil}
use Rattle.round_trip.specs.Words.{At, AreTables, ColId, Row, StoreModel, Table, TableId, Tables, Value, cells_of, rows_in}
use Rattle.round_trip.specs.soundness.Lookups.{columns_of}
use Rattle.round_trip.specs.soundness.Stores.{IsSoundStore}
use Rattle.round_trip.proofs.Lookups.{key_columns_at}
use Rattle.row_changes.proofs.leading.Primary.{row_within}
use Rattle.row_orders.specs.declared.alteration.Alteration.{Alteration}
use Rattle.row_orders.specs.Alterations.{AreAlterations, IsAlteration, IsRowThere, new_row, old_row, whose}
use Rattle.keyed_rows.specs.row_differences.SameButFree.{HaveRowsApart}
use Rattle.keyed_rows.specs.row_groups.Shown.{shown_cells}
use Rattle.keyed_rows.specs.declared.row_groups.groups.KeyGroup.{KeyGroup}
use Rattle.row_plans.specs.Altered.{AddsTable, altered_in}
use Rattle.row_plans.specs.Lengths.{AreAsLong, HasLongRows, IsAsLong}
use Rattle.row_plans.specs.Sides.{AreRowGroups, rows_of}
use Rattle.row_plans.specs.declared.altered.sides.Side.{Side}
use Rattle.row_plans.specs.declared.altered.sides.Side.TheVariants.{Before, Afterwards}
use Rattle.row_plans.specs.declared.altered.sides.SidedRow.{SidedRow}
use Rattle.row_plans.proofs.altering.InTable.{AreAlterationsIn, are_alterations}

-- a table without rows adds nothing
pub nothing_added : (t : TableId) (cols : List ColId) (old new : List Row) (found : List Alteration) → (length old == 0) ≡ true → (length new == 0) ≡ true → AddsTable t cols old new found found
nothing_added t cols [] [] found no_old no_new = record {
  groups = [];
  are = record {
    rising = λ i j d below within. absurd (omega (arith, within));
    rows = λ group side row there. absurd (contains_nil group there);
    all = none;
  };
  adds = sym (append-nil found);
}
  where
    none : (side : Side) (row : Row) → Contains (rows_of [] [] side) row → Contains (map (λ (group : KeyGroup SidedRow). shown_cells group.key) []) (cells_of row cols)
    none Before row has = absurd (contains_nil row has)
    none Afterwards row has = absurd (contains_nil row has)
nothing_added t cols [] (row ∷ new) found no_old no_new = absurd (let none : length (row ∷ new) ≡ 0 = eqb-true (length (row ∷ new)) 0 no_new in omega (arith, none))
nothing_added t cols (row ∷ old) new found no_old no_new = absurd (let none : length (row ∷ old) ≡ 0 = eqb-true (length (row ∷ old)) 0 no_old in omega (arith, none))

module _ (store : StoreModel) (old new : Tables) where
  -- a key's rows that differ are altered
  abbrev pub IsFound : List Alteration → TableId → Type 0
  IsFound found t = (key : List Value) (one two : Option Row) → IsRowThere store old t key one → IsRowThere store new t key two → one ≢ two
      → (alteration : Alteration) × Contains found alteration × (whose store alteration ≡ (t, key))

  -- all alterations of the tables below a number, each key's once
  pub record AreAlterationsBelow (n : ℕ) (found : List Alteration) : Type 0 where
    pub only : All (IsAlteration store old new) found
    pub below : All (λ one. one.table.index < n) found
    pub all : (t : TableId) → t.index < n → IsFound found t
    pub once : AllPairs (λ one later. whose store one ≢ whose store later) found

  -- none at first
  pub none_yet : AreAlterationsBelow 0 []
  none_yet = record {
    only = λ k d within. absurd (omega (arith, within));
    below = λ k d within. absurd (omega (arith, within));
    all = λ t under key one two was is apart. absurd (omega (arith, under));
    once = λ i j d below within. absurd (omega (arith, within));
  }

  -- with those of the next table
  pub table_more : (t : TableId) (found added : List Alteration) → AreAlterationsBelow t.index found → AreAlterationsIn store old new t added → AreAlterationsBelow (t.index + 1) (found ++ added)
  table_more t found added so_far more = record {
    only = All-append (IsAlteration store old new) found added so_far.only more.only;
    below = All-append (λ (one : Alteration). one.table.index < t.index + 1) found added
        (All-weaker (λ (one : Alteration). one.table.index < t.index) (λ (one : Alteration). one.table.index < t.index + 1) (λ one under. omega (arith, under)) found so_far.below)
        (All-weaker (λ (one : Alteration). one.table ≡ t) (λ (one : Alteration). one.table.index < t.index + 1)
        (λ one is. (let number : one.table.index ≡ t.index = ap (λ (u : TableId). u.index) is in omega (arith, number))) added more.here);
    all = λ u under key one two was is apart. ⊎_elim
        (λ (same : u.index ≡ t.index).
        let table : u ≡ t = same_table u t same in
        let P : TableId → Type 0 = λ v. IsRowThere store old v key one in
        let Q : TableId → Type 0 = λ v. IsRowThere store new v key two in
        let altered = more.all key one two (subst P table was) (subst Q table is) apart in
        (altered.0, Contains-append_right found added altered.0 altered.1, altered.2 ∙ (λ i. (sym table i, key))))
        (λ other.
        let altered = so_far.all u (omega (arith, under, other)) key one two was is apart in
        (altered.0, Contains-append_left found added altered.0 altered.1, altered.2))
        (cases_eq u.index t.index);
    once = apart-append (λ (one later : Alteration). whose store one ≢ whose store later) found added so_far.once more.once
        (all_from_members (λ (one : Alteration). All (λ later. whose store one ≢ whose store later) added) found
        (λ one has. all_from_members (λ (later : Alteration). whose store one ≢ whose store later) added (λ later has_later same.
        (let under : one.table.index < t.index = All-contains (λ (a : Alteration). a.table.index < t.index) found one so_far.below has in
        let here : later.table ≡ t = All-contains (λ (a : Alteration). a.table ≡ t) added later more.here has_later in
        let tables : one.table ≡ later.table = ap (λ (p : TableId × List Value). p.0) same in
        let number : one.table.index ≡ t.index = ap (λ (u : TableId). u.index) (tables ∙ here) in
        absurd (omega (arith, under, number))))));
  }

  module _ (old_tables : AreTables store old) (new_tables : AreTables store new) where
    -- those of all tables are all
    pub all_tables : (n : ℕ) (found : List Alteration) → length store.tables ≤ n → AreAlterationsBelow n found → AreAlterations store old new found
    all_tables n found end are = record { only = are.only; all = all; once = are.once }
      where
        all : (t : TableId) → IsFound found t
        all t key None None was is apart = absurd (apart refl)
        all t key (Some row) two was is apart =
            let within = row_within old t row was.0 in
            let size = old_tables.each in
            are.all t (omega (arith, within, size, end)) key (Some row) two was is apart
        all t key None (Some row) was is apart =
            let within = row_within new t row is.0 in
            let size = new_tables.each in
            are.all t (omega (arith, within, size, end)) key None (Some row) was is apart

    -- their rows are as long as the columns
    long_row : (tables : Tables) → AreTables store tables → (t : TableId) (key : List Value) (found : Option Row) → IsRowThere store tables t key found
        → (row : Row) → found ≡ Some row → IsAsLong store t row
    long_row tables are t key found there row is =
        let has : IsRowThere store tables t key (Some row) = subst (IsRowThere store tables t key) is there in
        let within = row_within tables t row has.0 in
        let size = are.each in
        let table = item_at store.tables t.index (omega (arith, within, size)) in
        let cols : columns_of store t ≡ table.0.cols = ap (λ (declared : Option Table). option_map_or (λ (one : Table). one.cols) declared []) table.1 in
        All-contains (λ (r : Row). length r.cells ≡ length table.0.cols) (rows_in tables t) row (are.rows t table.0 table.1) has.0 ∙ ap length (sym cols)

    pub as_long : (found : List Alteration) → AreAlterations store old new found → AreAsLong store found
    as_long found are = All-weaker (IsAlteration store old new) (HasLongRows store)
        (λ one is. record {
          old = long_row old old_tables one.table (whose store one).1 (old_row one) is.before;
          new = long_row new new_tables one.table (whose store one).1 (new_row one) is.afterwards;
        }) found are.only

-- what a table adds are its alterations
pub table_added : (store : StoreModel) (old new : Tables) → HaveRowsApart store old → HaveRowsApart store new → (t : TableId) (table : Table) → At store.tables t.index table
    → (found after : List Alteration) → AddsTable t table.key (rows_in old t) (rows_in new t) found after → AreAlterationsBelow store old new t.index found
    → AreAlterationsBelow store old new (t.index + 1) after
table_added store old new old_apart new_apart t table at found after adds so_far =
    let P : List ColId → Type 0 = λ cols. AreRowGroups cols (rows_in old t) (rows_in new t) adds.groups in
    subst (AreAlterationsBelow store old new (t.index + 1)) (sym adds.adds)
    (table_more store old new t found (flat_map (altered_in t) adds.groups) so_far
    (are_alterations store old new t adds.groups (subst P (sym (key_columns_at store t table at)) adds.are) (old_apart t) (new_apart t)))

-- the columns of a key are columns of each row
pub key_within : (store : StoreModel) (tables : Tables) → IsSoundStore store → AreTables store tables → (t : TableId) (table : Table) → At store.tables t.index table
    → All (λ row. All (λ col. col.index < length row.cells) table.key) (rows_in tables t)
key_within store tables sound are t table at =
    let within : All (λ col. col.index < length table.cols) table.key =
    All-contains (λ (one : Table). All (λ col. col.index < length one.cols) one.key) store.tables table sound.ids.keys (contains_at store.tables t.index table at) in
    All-weaker (λ (row : Row). length row.cells ≡ length table.cols) (λ (row : Row). All (λ col. col.index < length row.cells) table.key)
    (λ row long. subst (λ (n : ℕ). All (λ (col : ColId). col.index < n) table.key) (sym long) within) (rows_in tables t) (are.rows t table at)
