-- The row of a table at a key of a set, and the rows of all tables.
use Rattle.std.proofs.Common.{◌≡◌, ◌<◌, ◌+◌, ⊎_elim, List, [], ◌∷◌, ◌++◌, append-nil, length, map, Option, Some, None, Contains, refl, sym, ap, subst, ◌∙◌, arith}
use Rattle.std.proofs.lemmas.Bool.{cases_lt}
use Rattle.std.proofs.lemmas.Option.{same_Some, slice_get_within}
use Rattle.std.proofs.lemmas.List.Elements.{All-append, All-contains, All-nil, Contains-append_left, Contains-append_right}
use Rattle.emc_base.proofs.Lists.{all_from_members, only_member}
use Rattle.emc_base.proofs.Mapped.{contains_at}
use Rattle.edm_types.proofs.Lookups.{same_table}
use Rattle.case_laws.proofs.filled_rows.Pairs.{pairs_append}
use Rattle.regions.proofs.region_laws.lists.Choices.{pairs_nil}
use Rattle.round_trip.specs.Words.{SetId, TableId, Value, Pair, Row, Schema, Table, Tables, At, AreLegalTables, cells_of, rows_in, row_key, value_beside}
use Rattle.round_trip.specs.soundness.Lookups.{set_key}
use Rattle.round_trip.specs.soundness.mappings.Mappings.{IsSoundSchema}
use Rattle.round_trip.proofs.Lookups.{key_columns_at}
use Rattle.schema_laws.proofs.state_demand.lists.Lists.{head_stands, same_by_key}
use Rattle.case_laws.specs.region_cases.Meets.{StandsAtKey}
use Rattle.table_files.specs.Lists.{HasKey, IsFirstOf}
use Rattle.table_owners.specs.declared.table_writers.writer.Owner.{Owner}
use Rattle.table_owners.specs.Owners.{TellsOwner}
use Rattle.case_laws.specs.candidates.Rows.{AreRowsAt}
use Rattle.keyed_rows.specs.set_rows.Owning.{IsOwnedBy, IsTableKey}
use Rattle.keyed_rows.specs.set_rows.AtKey.{AreRowsBelow, IsRowAt, in_table}
use Rattle.keyed_rows.proofs.set_rows.KeyOrder.{alike}
use Rattle.keyed_rows.proofs.set_rows.Owners.{owned_by}

-- a row with its table
abbrev Placed : Type 0
Placed = TableId × Row

-- in this table or one before
abbrev Below : TableId → Placed → Type 0
Below t placed = placed.0.index < t.index + 1

-- in tables that rise
abbrev Rises : Placed → Placed → Type 0
Rises one later = one.0.index < later.0.index

module _ (schema : Schema) (sound : IsSoundSchema schema) (tables : Tables) (legal : AreLegalTables schema.store tables) (s : SetId) (key : List Value) where
  module _ (t : TableId) where
    abbrev Stands : Row → Type 0
    Stands held = StandsAtKey schema tables s key t held

    -- of a table that the set doesn't own no row stands at a key
    pub no_row : (found : Option Owner) → TellsOwner schema t found → ¬ IsOwnedBy schema t s → IsRowAt schema tables s key t None
    no_row found tells not_owned held =
        (λ at. absurd (not_owned (owned_by schema sound t s found tells at.pairing at.written at.owned)), λ same. absurd (let none : ⊥ = cc in none))

    module _ (table : Table) (here : At schema.store.tables t.index table) (own : List Value) (is : IsTableKey schema t s key own) where
      -- a row with the primary key stands at the key
      stands_by : (row : Row) → Contains (rows_in tables t) row → HasKey schema.store t own row → Stands row
      stands_by row has with_key = record {
        pairing = is.0.pairing;
        table = table;
        written = is.0.written;
        owned = is.0.owned;
        is_table = here;
        stands = has;
        at_key = ap (cells_of row) (sym (key_columns_at schema.store t table here)) ∙ with_key ∙ is.1;
      }

      -- and one that stands there has this primary key
      key_by : (row : Row) → Stands row → HasKey schema.store t own row
      key_by row at =
          ap (cells_of row) (key_columns_at schema.store t at.table at.is_table) ∙ at.at_key
          ∙ ap (map (λ (pair : Pair). value_beside pair.prop (set_key schema.model s) key)) (sym (alike schema sound t s is.0 tables key row at)) ∙ sym is.1

      -- two that stand there are one
      one_row : (row other : Row) → Stands row → Stands other → row ≡ other
      one_row row other at too =
          let cols = key_columns_at schema.store t table here in
          same_by_key (row_key table) (rows_in tables t) row other (legal.rows t table here).keys at.stands too.stands
          (ap (cells_of row) (sym cols) ∙ key_by row at ∙ sym (key_by other too) ∙ ap (cells_of other) cols)

      -- the first row with the primary key is the row
      pub first_row : (found : Option Row) → IsFirstOf (HasKey schema.store t own) (rows_in tables t) found → IsRowAt schema tables s key t found
      first_row None none held = (
        λ at. absurd (All-contains (λ (row : Row). ¬ HasKey schema.store t own row) (rows_in tables t) held none at.stands (key_by held at)),
        λ same. absurd (let never : ⊥ = cc in never),
      )
      first_row (Some row) first held =
          let stands : Stands row = stands_by row (contains_at (rows_in tables t) first.0 row first.1) first.2 in
          (λ at. ap Some (one_row row held stands at), λ same. subst Stands (same_Some row held same) stands)

  -- a placed row stands at the key
  abbrev Stand : Placed → Type 0
  Stand placed = StandsAtKey schema tables s key placed.0 placed.1

  -- with the row of one table more
  pub one_table_more : (t : TableId) (found : Option Row) (before after : List (TableId × Row)) → AreRowsBelow schema tables s key t.index before
      → IsRowAt schema tables s key t found → after ≡ before ++ in_table t found → AreRowsBelow schema tables s key (t.index + 1) after
  one_table_more t found before after are is after_is = subst (AreRowsBelow schema tables s key (t.index + 1)) (sym after_is) (by found is)
    where
      below_before : (one : Placed) → Contains before one → one.0.index < t.index
      below_before one has = All-contains (λ (other : Placed). other.0.index < t.index) before one are.below has

      by : (told : Option Row) → IsRowAt schema tables s key t told → AreRowsBelow schema tables s key (t.index + 1) (before ++ in_table t told)
      by None none = subst (AreRowsBelow schema tables s key (t.index + 1)) (sym (append-nil before)) (record {
        stand = are.stand;
        below = all_from_members (Below t) before (λ one has. let under = below_before one has in omega (arith, under));
        all = λ u held inside stands. ⊎_elim
            (λ (under : u.index < t.index). are.all u held under stands)
            (λ past.
            let same : u ≡ t = same_table u t (omega (arith, inside, past)) in
            let never : None ≡ Some held = (none held).0 (subst (λ (v : TableId). StandsAtKey schema tables s key v held) same stands) in
            absurd cc)
            (cases_lt u.index t.index);
        rising = are.rising;
      })
      by (Some row) one = record {
        stand = All-append Stand before ((t, row) ∷ []) are.stand (all_from_members Stand ((t, row) ∷ []) (λ placed has.
            subst Stand (sym (only_member ((t, row) ∷ []) (t, row) placed refl has)) ((one row).1 refl)));
        below = All-append (Below t) before ((t, row) ∷ [])
            (all_from_members (Below t) before (λ other has. let under = below_before other has in omega (arith, under)))
            (all_from_members (Below t) ((t, row) ∷ []) (λ placed has. subst (Below t) (sym (only_member ((t, row) ∷ []) (t, row) placed refl has)) (omega arith)));
        all = λ u held inside stands. ⊎_elim
            (λ (under : u.index < t.index). Contains-append_left before ((t, row) ∷ []) (u, held) (are.all u held under stands))
            (λ past.
            let same : u ≡ t = same_table u t (omega (arith, inside, past)) in
            let told : Some row ≡ Some held = (one held).0 (subst (λ (v : TableId). StandsAtKey schema tables s key v held) same stands) in
            let placed : (t, row) ≡ (u, held) = λ k. (sym same k, same_Some row held told k) in
            Contains-append_right before ((t, row) ∷ []) (u, held) (subst (Contains ((t, row) ∷ [])) placed (head_stands (t, row) [])))
            (cases_lt u.index t.index);
        rising = pairs_append Rises before ((t, row) ∷ []) are.rising (λ i j d below inside. absurd (omega (arith, below, inside)))
            (λ other placed has has_placed.
            let under = below_before other has in
            subst (Rises other) (sym (only_member ((t, row) ∷ []) (t, row) placed refl has_placed)) under);
      }

  -- none of no table
  pub no_table : AreRowsBelow schema tables s key 0 []
  no_table = record {
    stand = All-nil (λ (placed : TableId × Row). StandsAtKey schema tables s key placed.0 placed.1);
    below = All-nil (λ (placed : TableId × Row). placed.0.index < 0);
    all = λ t held inside stands. absurd (omega (arith, inside));
    rising = pairs_nil (λ (one later : TableId × Row). one.0.index < later.0.index);
  }

  -- those of all tables
  pub all_tables : (rows : List (TableId × Row)) → length key ≡ length (set_key schema.model s) → AreRowsBelow schema tables s key (length schema.store.tables) rows
      → AreRowsAt schema tables s key rows
  all_tables rows is_whole are = record {
    whole = is_whole;
    stand = are.stand;
    all = λ t held stands. are.all t held (slice_get_within schema.store.tables t.index stands.table stands.is_table) stands;
    rising = are.rising;
  }
