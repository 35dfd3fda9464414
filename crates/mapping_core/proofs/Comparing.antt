-- What the comparison of tables with those of a state asks, and what it tells.
use Rattle.std.proofs.Common.{◌≡◌, ⊎_elim, ◌<◌, ◌≤◌, List, [], ◌∷◌, length, All, Bool, false, IsPermutation, IsTrue, sym, ap, subst, arith}
use Rattle.std.specs.List.{AllZip}
use Rattle.std.specs.Option.{option_map_or}
use Rattle.std.proofs.lemmas.Bool.{cases_lt}
use Rattle.std.proofs.lemmas.List.Sorted.{IsPermutation-sym}
use Rattle.std.proofs.lemmas.Option.{slice_get_past}
use Rattle.emc_base.proofs.Lists.{all_from_members, item_at}
use Rattle.edm_types.proofs.Lookups.{rows_beyond}
use Rattle.round_trip.specs.Words.{AreErased, AreLegalTables, ColId, IsErasedRow, IsFree, Row, Schema, State, StoreModel, Table, TableId, Tables, TablesAre, key_columns, rows_in}
use Rattle.round_trip.proofs.Lookups.{key_columns_at}
use Rattle.table_files.specs.InOrder.{AreToldApartBy}
use Rattle.schema_laws.proofs.same_states.SameTables.{tables_moved}
use Rattle.regions.specs.Basis.{Basis}
use Rattle.regions.specs.region_laws.IsBasis.{IsBasis}
use Rattle.case_laws.specs.Reading.{DecidesFree, HasStateTables}
use Rattle.case_laws.proofs.shown.Settling.{answered, key_named}
use Rattle.keyed_rows.specs.row_differences.SameButFree.{AreSameButFree, HasKeptKeys, HaveRowsApart}

-- no two rows of legal tables have one primary key
pub legal_apart : (store : StoreModel) (tables : Tables) → AreLegalTables store tables → HaveRowsApart store tables
legal_apart store tables legal t = ⊎_elim
    (λ (within : t.index < length store.tables).
    let found = item_at store.tables t.index within in
    let Apart : List ColId → Type 0 = λ cols. AreToldApartBy cols (rows_in tables t) in
    subst Apart (sym (key_columns_at store t found.0 found.1)) (legal.rows t found.0 found.1).keys)
    (λ (past : length store.tables ≤ t.index).
    let Apart : List Row → Type 0 = AreToldApartBy (key_columns store t) in
    subst Apart (sym (rows_beyond tables t (omega (arith, past, legal.shape.each)))) (λ i j d below within. absurd (omega arith)))
    (cases_lt t.index (length store.tables))

-- there are no key columns past the tables of the store
key_columns_past : (store : StoreModel) (t : TableId) → length store.tables ≤ t.index → key_columns store t ≡ []
key_columns_past store t past = ap (λ found. option_map_or (λ (one : Table). one.key) found []) (slice_get_past store.tables t.index past)

-- no column of a primary key is free
pub kept_keys : (basis : Basis) → IsBasis basis → (is_free : TableId → ColId → Bool) → DecidesFree basis.schema is_free → HasKeptKeys basis.schema.store is_free
kept_keys basis is is_free decides t = ⊎_elim
    (λ (within : t.index < length store.tables).
    let found = item_at store.tables t.index within in
    subst (All Kept) (sym (key_columns_at store t found.0 found.1)) (all_from_members Kept found.0.key
    (λ col among. answered basis is is_free decides t col (λ free. key_named basis is t found.0 found.1 free.written col among free))))
    (λ (past : length store.tables ≤ t.index). subst (All Kept) (sym (key_columns_past store t past)) (λ k d within. absurd (omega arith)))
    (cases_lt t.index (length store.tables))
  where
    store : StoreModel
    store = basis.schema.store

    Kept : ColId → Type 0
    Kept col = is_free t col ≡ false

-- what holds of the items of two lists, place by place, and gives something else
module _ {X Y : Type 0} (R S : X → Y → Type 0) (gives : (x : X) (y : Y) → R x y → S x y) where
  pub zip_gives : (xs : List X) (ys : List Y) → AllZip R xs ys → AllZip S xs ys
  zip_gives [] [] all = all
  zip_gives [] (y ∷ ys) all = all
  zip_gives (x ∷ xs) [] all = all
  zip_gives (x ∷ xs) (y ∷ ys) all = (gives x y all.0, zip_gives xs ys all.1)

-- tables are erased in the same columns, if these are told in two ways
module _ (store : StoreModel) (One Two : TableId → ColId → Type 0) (to_two : (t : TableId) (col : ColId) → One t col → Two t col) (to_one : (t : TableId) (col : ColId) → Two t col → One t col) where
  erased_too : (tables erased : Tables) → AreErased store One tables erased → AreErased store Two tables erased
  erased_too tables erased are = record {
    shape = are.shape;
    rows = λ t. zip_gives (IsErasedRow (One t)) (IsErasedRow (Two t))
        (λ row other is. record { free = λ col free. is.free col (to_one t col free); rest = λ col held. is.rest col (λ free. held (to_two t col free)) })
        (rows_in tables t) (rows_in erased t) (are.rows t);
  }

module _ (schema : Schema) (is_free : TableId → ColId → Bool) (decides : DecidesFree schema is_free) (tables : Tables) where
  abbrev IsTold : TableId → ColId → Type 0
  IsTold t col = IsTrue (is_free t col)

  -- tables that are those of a state but for free cells are its tables
  pub has_tables : (state : State) (fresh : Tables) → TablesAre schema state fresh → AreSameButFree schema.store is_free tables fresh → HasStateTables schema state tables
  has_tables state fresh are same = record {
    erased = same.erased;
    are_erased = erased_too schema.store IsTold (IsFree schema) (λ t col. (decides.tells t col).0) (λ t col. (decides.tells t col).1) tables same.erased same.are_erased;
    are = tables_moved schema state fresh same.erased (λ t. IsPermutation-sym (rows_in same.erased t) (rows_in fresh t) (same.same t)) same.are_erased.shape are;
  }

  -- tables of a state that are fresh ones, with null in their free cells, are these but for free cells
  pub same_but_free : (state : State) (has : HasStateTables schema state tables) (fresh : Tables) → ((t : TableId) → IsPermutation (rows_in has.erased t) (rows_in fresh t))
      → AreSameButFree schema.store is_free tables fresh
  same_but_free state has fresh same = record {
    erased = has.erased;
    are_erased = erased_too schema.store (IsFree schema) IsTold (λ t col. (decides.tells t col).1) (λ t col. (decides.tells t col).0) tables has.erased has.are_erased;
    same = same;
  }
