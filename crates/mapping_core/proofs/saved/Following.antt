-- Kept tables whose rows follow those of fresh tables in another order, and free columns that are told in two ways.
use Rattle.std.proofs.Common.{◌≡◌, ◌<◌, ◌≤◌, List, [], ◌∷◌, IsPermutation, length, ⊎_elim, subst, sym}
use Rattle.std.proofs.lemmas.Bool.{cases_lt}
use Rattle.std.proofs.lemmas.List.Elements.{All-weaker}
use Rattle.std.proofs.lemmas.List.Sorted.{All-permutation, IsPermutation-refl}
use Rattle.std.proofs.lemmas.Option.{slice_get_within}
use Rattle.std.specs.List.{AllZip}
use Rattle.edm_types.proofs.Lookups.{rows_beyond}
use Rattle.emc_base.proofs.Lists.{at_once, item_at}
use Rattle.round_trip.specs.Words.{AreSameTables, AreTables, At, ColId, IsKeptRow, KeepsFree, Row, StoreModel, Table, TableId, Tables, cell_of, row_key, rows_in}
use Rattle.delta_plan.proofs.grouped.Beside.{moved_beside}
use Rattle.delta_plan.proofs.grouped.Chosen.{chosen}
use Rattle.mapping_core.proofs.Comparing.{zip_gives}

-- the same relation, the other way round
module _ {X Y : Type 0} (R : X → Y → Type 0) where
  pub flipped : (xs : List X) (ys : List Y) → AllZip R xs ys → AllZip (λ y x. R x y) ys xs
  flipped [] [] all = all
  flipped [] (y ∷ ys) all = all
  flipped (x ∷ xs) [] all = all
  flipped (x ∷ xs) (y ∷ ys) all = (all.0, flipped xs ys all.1)

-- free columns that are told in two ways
module _ (One Two : TableId → ColId → Type 0) (to_two : (t : TableId) (col : ColId) → One t col → Two t col) (to_one : (t : TableId) (col : ColId) → Two t col → One t col) where
  kept_row_too : (t : TableId) (table : Table) (old : List Row) (row kept : Row) → IsKeptRow (One t) table old row kept → IsKeptRow (Two t) table old row kept
  kept_row_too t table old row kept is = record {
    stays = All-weaker (λ (before : Row). row_key table before ≡ row_key table row → (col : ColId) → One t col → cell_of kept col ≡ cell_of before col)
        (λ (before : Row). row_key table before ≡ row_key table row → (col : ColId) → Two t col → cell_of kept col ≡ cell_of before col)
        (λ before stays same col free. stays same col (to_one t col free)) old is.stays;
    new = λ none col free. is.new none col (to_one t col free);
    rest = λ col held. is.rest col (λ free. held (to_two t col free));
  }

  pub keeps_too : (store : StoreModel) (old tables kept : Tables) → KeepsFree store One old tables kept → KeepsFree store Two old tables kept
  keeps_too store old tables kept keeps = record {
    shape = keeps.shape;
    rows = λ t table at. zip_gives (IsKeptRow (One t) table (rows_in old t)) (IsKeptRow (Two t) table (rows_in old t)) (kept_row_too t table (rows_in old t))
        (rows_in tables t) (rows_in kept t) (keeps.rows t table at);
  }

-- the kept rows follow the fresh ones in another order
module _ (store : StoreModel) (Free : TableId → ColId → Type 0) (old fresh kept others : Tables) (keeps : KeepsFree store Free old fresh kept) (same : AreSameTables fresh others) where
  abbrev Keeps : TableId → Table → Row → Row → Type 0
  Keeps t table = IsKeptRow (Free t) table (rows_in old t)

  abbrev Follow : TableId → List Row → Type 0
  Follow t rows = IsPermutation (rows_in kept t) rows × ((table : Table) → At store.tables t.index table → AllZip (Keeps t table) (rows_in others t) rows)

  in_table : (t : TableId) → t.index < length store.tables → (rows : List Row) × Follow t rows
  in_table t within =
      let found = item_at store.tables t.index within in
      let Back : Row → Row → Type 0 = λ kept_one one. Keeps t found.0 one kept_one in
      let beside = moved_beside Back (rows_in kept t) (rows_in fresh t) (rows_in others t)
      (flipped (Keeps t found.0) (rows_in fresh t) (rows_in kept t) (keeps.rows t found.0 found.1)) (same t) in
      let Follows : Table → Type 0 = λ table. AllZip (Keeps t table) (rows_in others t) beside.others in (
        beside.others,
        (beside.moved, λ table at. subst Follows (at_once store.tables t.index found.0 table found.1 at) (flipped Back beside.others (rows_in others t) beside.beside)),
      )

  pub record Followers : Type 0 where
    pub tables : Tables
    pub shape : AreTables store tables
    pub moved : AreSameTables kept tables
    pub keep : KeepsFree store Free old others tables

  pub followers : Followers
  followers =
      let made = chosen Follow (length store.tables) in_table in
      let each : (t : TableId) → t.index < length store.tables → Follow t (rows_in made.0 t) = made.1.each in
      let shape : AreTables store made.0 = record {
        each = made.1.size;
        rows = λ t table at. All-permutation (λ row. length row.cells ≡ length table.cols) (rows_in kept t) (rows_in made.0 t)
            (each t (slice_get_within store.tables t.index table at)).0 (keeps.shape.rows t table at);
      } in
      record {
        tables = made.0;
        shape = shape;
        moved = λ t. ⊎_elim
            (λ (within : t.index < length store.tables). (each t within).0)
            (λ (past : length store.tables ≤ t.index). (
            let none : rows_in made.0 t ≡ [] = rows_beyond made.0 t (subst (λ n. n ≤ t.index) (sym made.1.size) past) in
            let none_kept : rows_in kept t ≡ [] = rows_beyond kept t (subst (λ n. n ≤ t.index) (sym keeps.shape.each) past) in
            let Both : List Row × List Row → Type 0 = λ both. IsPermutation both.0 both.1 in
            subst Both (λ i. (sym none_kept i, sym none i)) (IsPermutation-refl [])))
            (cases_lt t.index (length store.tables));
        keep = record { shape = shape; rows = λ t table at. (each t (slice_get_within store.tables t.index table at)).1 table at };
      }
