-- Tables with free columns kept are the same in whatever order those were that are kept.
use Rattle.std.proofs.Common.{◌≡◌, ◌≢◌, ⊎_elim, ◌<◌, ◌≤◌, List, [], ◌∷◌, All, Bool, Contains, IsPermutation, IsTrue, length, refl, sym, subst, ◌∙◌}
use Rattle.std.specs.List.{AllZip}
use Rattle.std.proofs.lemmas.Bool.{cases_lt}
use Rattle.std.proofs.lemmas.List.Elements.{All-contains, All-head, All-tail}
use Rattle.std.proofs.lemmas.List.Sorted.{IsPermutation-refl}
use Rattle.edm_types.proofs.Lookups.{rows_beyond}
use Rattle.emc_base.proofs.Lists.{all_from_members, item_at}
use Rattle.round_trip.specs.Words.{AreKept, AreSameTables, ColId, IsFree, IsKeptRow, IsSameState, KeepsFree, Row, Schema, State, StoreModel, Table, TableId, Tables, cell_of, row_key, rows_in}
use Rattle.schema_laws.proofs.same_states.SameTables.{tables_too}
use Rattle.schema_laws.proofs.state_demand.tables.SameTables.{same_tables}
use Rattle.delta_plan.proofs.grouped.KeptRows.{held_or_not}
use Rattle.delta_plan.proofs.resting.Alike.{by_column}
use Rattle.case_laws.specs.Reading.{DecidesFree}
use Rattle.mapping_core.proofs.saved.Following.{Followers, followers, keeps_too}

module _ (is_free : ColId → Bool) (table : Table) (old : List Row) where
  abbrev Keeps : Row → Row → Type 0
  Keeps one row = IsKeptRow (λ col. IsTrue (is_free col)) table old one row

  abbrev IsLong : Row → Type 0
  IsLong row = length row.cells ≡ length table.cols

  -- one fresh row is kept in one way
  same_kept_row : (one row other : Row) → Keeps one row → Keeps one other → IsLong row → IsLong other → row ≡ other
  same_kept_row one row other is is_other long long_other = by_column is_free row other (long ∙ sym long_other)
      (λ col free. ⊎_elim
      (λ (found : (before : Row) × Contains old before × (row_key table before ≡ row_key table one)).
      let Stays : Row → Row → Type 0 = λ kept before. row_key table before ≡ row_key table one → (c : ColId) → IsTrue (is_free c) → cell_of kept c ≡ cell_of before c in
      All-contains (Stays row) old found.0 is.stays found.1 found.2 col free ∙ sym (All-contains (Stays other) old found.0 is_other.stays found.1 found.2 col free))
      (λ (none : (before : Row) → Contains old before → row_key table before ≢ row_key table one).
      let none_has : All (λ (before : Row). row_key table before ≢ row_key table one) old = all_from_members (λ (before : Row). row_key table before ≢ row_key table one) old none in
      is.new none_has col free ∙ sym (is_other.new none_has col free))
      (held_or_not is_free table old old old (row_key table one)))
      (λ col held. is.rest col held ∙ sym (is_other.rest col held))

  same_kept_rows : (ones rows others : List Row) → AllZip Keeps ones rows → AllZip Keeps ones others → All IsLong rows → All IsLong others → rows ≡ others
  same_kept_rows [] [] [] zip other long long_other = refl
  same_kept_rows [] [] (y ∷ others) zip other long long_other = absurd other
  same_kept_rows [] (x ∷ rows) others zip other long long_other = absurd zip
  same_kept_rows (one ∷ ones) [] others zip other long long_other = absurd zip
  same_kept_rows (one ∷ ones) (x ∷ rows) [] zip other long long_other = absurd other
  same_kept_rows (one ∷ ones) (x ∷ rows) (y ∷ others) zip other long long_other =
      let first : x ≡ y = same_kept_row one x y zip.0 other.0 (All-head IsLong x rows long) (All-head IsLong y others long_other) in
      let rest : rows ≡ others = same_kept_rows ones rows others zip.1 other.1 (All-tail IsLong x rows long) (All-tail IsLong y others long_other) in
      λ i. first i ∷ rest i

module _ (store : StoreModel) (is_free : TableId → ColId → Bool) (old : Tables) where
  abbrev Free : TableId → ColId → Type 0
  Free t col = IsTrue (is_free t col)

  -- of the same rows in another order the kept rows are the same, in another order
  kept_moved : (one two kept_one kept_two : Tables) → AreSameTables one two → KeepsFree store Free old one kept_one → KeepsFree store Free old two kept_two → AreSameTables kept_one kept_two
  kept_moved one two kept_one kept_two same keeps_one keeps_two t =
      let follow : Followers store Free old one kept_one two keeps_one same = followers store Free old one kept_one two keeps_one same in
      ⊎_elim
      (λ (within : t.index < length store.tables).
      let found = item_at store.tables t.index within in
      let is : rows_in follow.tables t ≡ rows_in kept_two t = same_kept_rows (is_free t) found.0 (rows_in old t) (rows_in two t) (rows_in follow.tables t) (rows_in kept_two t)
      (follow.keep.rows t found.0 found.1) (keeps_two.rows t found.0 found.1) (follow.shape.rows t found.0 found.1) (keeps_two.shape.rows t found.0 found.1) in
      subst (IsPermutation (rows_in kept_one t)) is (follow.moved t))
      (λ (past : length store.tables ≤ t.index).
      let none : rows_in kept_one t ≡ [] = rows_beyond kept_one t (subst (λ n. n ≤ t.index) (sym keeps_one.shape.each) past) in
      let none_two : rows_in kept_two t ≡ [] = rows_beyond kept_two t (subst (λ n. n ≤ t.index) (sym keeps_two.shape.each) past) in
      let Both : List Row × List Row → Type 0 = λ both. IsPermutation both.0 both.1 in
      subst Both (λ i. (sym none i, sym none_two i)) (IsPermutation-refl []))
      (cases_lt t.index (length store.tables))

-- of one state, in whatever order, the kept tables are the same
pub same_kept : (schema : Schema) (is_free : TableId → ColId → Bool) → DecidesFree schema is_free → (old : Tables) (one two : State) → IsSameState one two
    → (kept_one kept_two : Tables) → AreKept schema old one kept_one → AreKept schema old two kept_two → AreSameTables kept_one kept_two
same_kept schema is_free decides old one two same kept_one kept_two are_one are_two =
    let to_told : (t : TableId) (col : ColId) → IsFree schema t col → IsTrue (is_free t col) = λ t col. (decides.tells t col).1 in
    let from_told : (t : TableId) (col : ColId) → IsTrue (is_free t col) → IsFree schema t col = λ t col. (decides.tells t col).0 in
    kept_moved schema.store is_free old are_one.tables are_two.tables kept_one kept_two
    (same_tables schema two are_one.tables are_two.tables (tables_too schema one two same are_one.tables are_one.are) are_two.are)
    (keeps_too (IsFree schema) (λ t col. IsTrue (is_free t col)) to_told from_told schema.store old are_one.tables kept_one are_one.keeps)
    (keeps_too (IsFree schema) (λ t col. IsTrue (is_free t col)) to_told from_told schema.store old are_two.tables kept_two are_two.keeps)
