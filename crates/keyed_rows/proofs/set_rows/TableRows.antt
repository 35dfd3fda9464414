-- The rows of a table that a set owns, each with its key, and those of one table more.
use Rattle.std.proofs.Common.{◌≡◌, ◌≢◌, ◌<◌, ◌+◌, ⊎_elim, List, [], ◌++◌, Option, append-nil, length, map, All, AllPairs, Contains, IsPermutation, refl, sym, ap, subst, arith}
use Rattle.std.specs.Cmp.Lexicographic.{slice_cmp}
use Rattle.std.specs.declared.cmp.Ordering.TheVariants.{Less}
use Rattle.std.proofs.lemmas.Bool.{cases_lt}
use Rattle.std.proofs.lemmas.List.Elements.{All-append, All-contains, All-map, All-nil, Contains-append_left, Contains-append_right}
use Rattle.std.proofs.lemmas.List.Sorted.{All-permutation, Contains-permutation, IsPermutation-sym}
use Rattle.emc_base.specs.Order.{value_cmp}
use Rattle.emc_base.proofs.Lists.{all_from_members}
use Rattle.emc_base.proofs.Mapped.{contains_map}
use Rattle.emc_base.proofs.Numbered.{all_pairs_map}
use Rattle.edm_types.proofs.Lookups.{same_table}
use Rattle.case_laws.proofs.filled_rows.Pairs.{pairs_append}
use Rattle.regions.proofs.region_laws.lists.Choices.{pairs_nil}
use Rattle.round_trip.specs.Words.{SetId, TableId, ColId, Row, Schema, Table, Tables, At, AreLegalTables, rows_in, cells_of, key_columns}
use Rattle.round_trip.specs.soundness.mappings.Mappings.{IsSoundSchema}
use Rattle.round_trip.proofs.Lookups.{key_columns_at}
use Rattle.table_owners.specs.declared.table_writers.writer.Owner.{Owner}
use Rattle.table_owners.specs.Owners.{TellsOwner}
use Rattle.table_files.proofs.Rising.{rising_apart}
use Rattle.table_files.specs.InOrder.{AreToldApartBy}
use Rattle.keyed_rows.specs.set_rows.Owning.{IsOwnedBy, IsKeyOrder}
use Rattle.keyed_rows.specs.set_rows.Keyed.{AddsRowsOf, AreKeyedRows, AreKeyedRowsOf, IsKeyed, KeyedRow, keyed_row}
use Rattle.keyed_rows.proofs.set_rows.KeyOrder.{by_order, long, order_of, within}
use Rattle.keyed_rows.proofs.set_rows.Owners.{owned_by}

-- of one key, in tables that rise
abbrev Rises : KeyedRow → KeyedRow → Type 0
Rises one later = one.0 ≡ later.0 → one.1.0.index < later.1.0.index

module _ (schema : Schema) (sound : IsSoundSchema schema) (tables : Tables) (legal : AreLegalTables schema.store tables) (s : SetId) (t : TableId) where
  module _ (order : List ColId) (is : IsKeyOrder schema t s order) (table : Table) (here : At schema.store.tables t.index table) where
    -- the columns are within each row
    pub in_rows : All (λ row. All (λ col. col.index < length row.cells) order) (rows_in tables t)
    in_rows =
        let Fits : Row → Type 0 = λ row. length row.cells ≡ length table.cols in
        all_from_members (λ (row : Row). All (λ col. col.index < length row.cells) order) (rows_in tables t) (λ row has.
        let size : length row.cells ≡ length table.cols = All-contains Fits (rows_in tables t) row (legal.shape.rows t table here) has in
        subst (λ n. All (λ (col : ColId). col.index < n) order) (sym size) (within schema sound t s is.0 order is.1 table here))

    -- the columns of the primary key tell the rows apart
    pub rows_apart : AreToldApartBy (key_columns schema.store t) (rows_in tables t)
    rows_apart = subst (λ cols. AreToldApartBy cols (rows_in tables t)) (sym (key_columns_at schema.store t table here)) (legal.rows t table here).keys

    module _ (sorted : List Row) (same : IsPermutation (rows_in tables t) sorted)
        (rising : AllPairs (λ (row later : Row). slice_cmp value_cmp (cells_of row order) (cells_of later order) ≡ Less) sorted) where
      abbrev keyed : Row → KeyedRow
      keyed = keyed_row t order

      -- in another order they are as long
      pub in_sorted : All (λ row. All (λ col. col.index < length row.cells) order) sorted
      in_sorted = All-permutation (λ (row : Row). All (λ col. col.index < length row.cells) order) (rows_in tables t) sorted same in_rows

      stands : (row : Row) → Contains sorted row → Contains (rows_in tables t) row
      stands row has = Contains-permutation sorted (rows_in tables t) row (IsPermutation-sym (rows_in tables t) sorted same) has

      -- the rows with their cells in these columns are those at keys of the set
      rows_of : AreKeyedRowsOf schema tables s t (map keyed sorted)
      rows_of = record {
        keyed = All-map (IsKeyed schema tables s) keyed sorted (all_from_members (λ (row : Row). IsKeyed schema tables s (keyed row)) sorted (λ row has.
            record { whole = long schema sound t s is.0 order is.1 row; stands = by_order schema sound t s is.0 order is.1 tables table here row (stands row has) }));
        table = All-map (λ (one : KeyedRow). one.1.0 ≡ t) keyed sorted (all_from_members (λ (row : Row). t ≡ t) sorted (λ row has. refl));
        all = λ key held is_keyed.
            let is_key : cells_of held order ≡ key = order_of schema sound t s is.0 order is.1 tables key is_keyed.whole held is_keyed.stands in
            subst (λ k. Contains (map keyed sorted) (k, (t, held))) is_key
            (contains_map keyed sorted held (Contains-permutation (rows_in tables t) sorted held same is_keyed.stands.stands));
        apart = all_pairs_map (λ (one other : KeyedRow). one.0 ≢ other.0) keyed sorted (rising_apart order sorted rising);
      }

      -- so they are added
      pub adds_rows : (before after : List KeyedRow) → after ≡ before ++ map keyed sorted → AddsRowsOf schema tables s t before after
      adds_rows before after are = record { added = map keyed sorted; after_is = are; are = rows_of }

  -- of a table that the set doesn't own nothing is added
  pub adds_none : (found : Option Owner) → TellsOwner schema t found → ¬ IsOwnedBy schema t s → (rows : List KeyedRow) → AddsRowsOf schema tables s t rows rows
  adds_none found tells not_owned rows = record {
    added = [];
    after_is = sym (append-nil rows);
    are = record {
      keyed = All-nil (IsKeyed schema tables s);
      table = All-nil (λ (one : KeyedRow). one.1.0 ≡ t);
      all = λ key held is_keyed. absurd (not_owned (owned_by schema sound t s found tells is_keyed.stands.pairing is_keyed.stands.written is_keyed.stands.owned));
      apart = pairs_nil (λ (one other : KeyedRow). one.0 ≢ other.0);
    };
  }

  -- in this table or one before
  abbrev Below : KeyedRow → Type 0
  Below one = one.1.0.index < t.index + 1

  -- with the rows of one table more
  pub one_table_more : (before after : List KeyedRow) → AreKeyedRows schema tables s t.index before → AddsRowsOf schema tables s t before after
      → AreKeyedRows schema tables s (t.index + 1) after
  one_table_more before after are adds = subst (AreKeyedRows schema tables s (t.index + 1)) (sym adds.after_is) (record {
    keyed = All-append (IsKeyed schema tables s) before adds.added are.keyed adds.are.keyed;
    below = All-append Below before adds.added
        (all_from_members Below before (λ one has. let under = below_before one has in omega (arith, under)))
        (all_from_members Below adds.added (λ one has. let at = ap (λ (u : TableId). u.index) (of_table one has) in omega (arith, at)));
    all = λ key u held inside is_keyed. ⊎_elim
        (λ (under : u.index < t.index). Contains-append_left before adds.added (key, (u, held)) (are.all key u held under is_keyed))
        (λ past.
        let same : u ≡ t = same_table u t (omega (arith, inside, past)) in
        Contains-append_right before adds.added (key, (u, held))
        (subst (λ (v : TableId). Contains adds.added (key, (v, held))) (sym same)
        (adds.are.all key held (subst (λ (v : TableId). IsKeyed schema tables s (key, (v, held))) same is_keyed))))
        (cases_lt u.index t.index);
    rising = pairs_append Rises before adds.added are.rising (λ i j d below inside same. absurd (adds.are.apart i j d below inside same))
        (λ one later has has_later same.
        let under = below_before one has in
        let at = ap (λ (u : TableId). u.index) (of_table later has_later) in
        omega (arith, under, at));
  })
    where
      below_before : (one : KeyedRow) → Contains before one → one.1.0.index < t.index
      below_before one has = All-contains (λ (other : KeyedRow). other.1.0.index < t.index) before one are.below has

      of_table : (one : KeyedRow) → Contains adds.added one → one.1.0 ≡ t
      of_table one has = All-contains (λ (other : KeyedRow). other.1.0 ≡ t) adds.added one adds.are.table has

-- none of no table
pub no_table : (schema : Schema) (tables : Tables) (s : SetId) → AreKeyedRows schema tables s 0 []
no_table schema tables s = record {
  keyed = All-nil (IsKeyed schema tables s);
  below = All-nil (λ (one : KeyedRow). one.1.0.index < 0);
  all = λ key t held inside is_keyed. absurd (omega (arith, inside));
  rising = pairs_nil (λ (one later : KeyedRow). one.0 ≡ later.0 → one.1.0.index < later.1.0.index);
}
