-- The tables of a legal state are legal and agree with each fragment, where the state doesn't fail.
use Rattle.std.proofs.Common.{◌≡◌, inl, inr, ⊎_elim, ◌≤◌, List, [], length, unwrap_or, Bool, true, false, IsTrue, Contains, refl, sym, ap, subst, ◌∙◌}
use Rattle.std.proofs.lemmas.List.Elements.{All-contains}
use Rattle.std.proofs.lemmas.Option.{slice_get_cases, slice_get_past}
use Rattle.emc_base.proofs.Lists.{all_from_members}
use Rattle.round_trip.specs.Words.{TypeId, TableId, Value, Place, place_at, Assoc, Table, ForeignKey, Fragment, LinkFragment, Schema, Row, State, At, Tables, rows_in, cell_of, cells_of, row_key, IsLegal, HasAllowedNullCells, HasCellsInDomain, AreLegalRows, Refers, FindsRow, KeepsForeignKey, AreLegalTables, DemandsCell, TablesAre, IsWrittenTuple, IsShownTuple, IsWrittenLinkTuple, IsShownLinkTuple, AreSameTuples, Satisfies, RoundTrips, HasGoodTables}
use Rattle.round_trip.specs.FailsAt.{Dangles, Disagrees, LeavesNull, element_of, key_in_tuple, keys_in_tuple}
use Rattle.round_trip.specs.declared.FailKind.TheVariants as kind
use Rattle.schema_laws.specs.state_demand.MadeTables.{tables_of}
use Rattle.schema_laws.specs.state_demand.Owners.{InheritsKeys}
use Rattle.schema_laws.specs.state_demand.Selecting.{DecidesTypes}
use Rattle.schema_laws.specs.state_demand.WellWritten.{HasAssocs, HasTables, HoldsValues, IsWellWritten}
use Rattle.schema_laws.specs.state_demand.Writings.{writings_of}
use Rattle.schema_laws.proofs.state_demand.writings.Decisions.{any_or_not, key_or_not, link_tuple_shown_or_not, link_tuple_written_or_not, tuple_shown_or_not, tuple_written_or_not}
use Rattle.schema_laws.proofs.state_demand.tables.Domains.{demanded_domain}
use Rattle.schema_laws.proofs.state_demand.lists.Lists.{none_in_nil}
use Rattle.schema_laws.proofs.state_demand.tables.ReadBack.{cells_demanded, no_clash_from_none, row_demanded, rows_demanded}
use Rattle.schema_laws.proofs.state_demand.tables.Tables.{tables_are}
use Rattle.schema_laws.proofs.state_demand.writings.Writings.{are_writings}

-- what isn't false is true
true_or_false : (b : Bool) → (b ≡ false → ⊥) → IsTrue b
true_or_false true never = refl
true_or_false false never = absurd (never refl)

module _ (schema : Schema) (inherits : InheritsKeys schema.model) (holds : HoldsValues schema) (state : State) (legal : IsLegal schema.model state) (tables : Tables)
    (are : TablesAre schema state tables)
    (no_null : (place : Place) → ¬ LeavesNull schema state place) (no_dangling : (place : Place) → ¬ Dangles schema state place) where
  module _ (t : TableId) (table : Table) (here : At schema.store.tables t.index table) where
    -- B1
    keeps_nulls : (row : Row) → Contains (rows_in tables t) row → HasAllowedNullCells table row
    keeps_nulls row has col column at null = true_or_false column.nullable (λ not_nullable.
        no_null (place_at table.name (row_key table row) column.name) (record {
          t = t;
          table = table;
          col = col;
          column = column;
          key = row_key table row;
          has_column = record { is_table = here; is_column = at };
          not_nullable = not_nullable;
          demands_row = row_demanded schema state tables are t table here row has;
          no_value = λ value demand. sym ((cells_demanded schema state tables are t table here row has).demanded col value demand) ∙ null;
          place_is = refl;
        }))

    -- B2
    keeps_domains : (row : Row) → Contains (rows_in tables t) row → HasCellsInDomain table row
    keeps_domains row has col column at = ⊎_elim
        (λ null. inl null)
        (λ (demand : DemandsCell schema state t (row_key table row) col (cell_of row col)).
        demanded_domain schema inherits state legal holds t table here col column at (row_key table row) (cell_of row col) demand)
        ((cells_demanded schema state tables are t table here row has).only col column at)

    legal_rows : AreLegalRows table (rows_in tables t)
    legal_rows = record {
      nulls = all_from_members (HasAllowedNullCells table) (rows_in tables t) keeps_nulls;
      domains = all_from_members (HasCellsInDomain table) (rows_in tables t) keeps_domains;
      keys = (rows_demanded schema state tables are t table here).once;
    }

  -- B4
  keeps_key : (key : ForeignKey) → Contains schema.store.keys key → KeepsForeignKey tables key
  keeps_key key is_key = elim (slice_get_cases schema.store.tables key.from.index).1 [
    | inl found ↦ all_from_members (λ (row : Row). Refers key row → FindsRow tables key row) (rows_in tables key.from) (λ row has refers.
        let Finds : Row → Type 0 = λ target. cells_of target key.to_cols ≡ cells_of row key.from_cols in
        ⊎_elim
        (λ (finds : FindsRow tables key row). finds)
        (λ (none : ¬ FindsRow tables key row). absurd (no_dangling (place_at found.0.name (row_key found.0 row) key.name) (record {
          tables = tables;
          defined = are;
          key = key;
          table = found.0;
          row = row;
          is_key = is_key;
          is_table = found.2;
          is_row = has;
          refers = refers;
          no_row = none;
          place_is = refl;
        })))
        (any_or_not Finds (λ target. key_or_not (cells_of target key.to_cols) (cells_of row key.from_cols)) (rows_in tables key.to)))
    | inr past ↦
        let end : length schema.store.tables ≤ key.from.index = past.0 in
        let none : rows_in tables key.from ≡ [] = ap (λ found. unwrap_or found [])
        (slice_get_past tables key.from.index (subst (λ n. n ≤ key.from.index) (sym are.shape.each) end)) in
        all_from_members (λ (row : Row). Refers key row → FindsRow tables key row) (rows_in tables key.from)
        (λ row has. absurd (none_in_nil row (subst (λ rows. Contains rows row) none has)))
  ]

  pub legal_tables : AreLegalTables schema.store tables
  legal_tables = record {
    shape = are.shape;
    rows = legal_rows;
    keys = all_from_members (KeepsForeignKey tables) schema.store.keys keeps_key;
  }

module _ (schema : Schema) (is_a : TypeId → TypeId → Bool) (decides : DecidesTypes schema.model is_a) (has_assocs : HasAssocs schema) (state : State) (tables : Tables)
    (are : TablesAre schema state tables)
    (agrees : (place : Place) → ¬ Disagrees schema state place) where
  same_tuples : (fragment : Fragment) → Contains schema.mapping.fragments fragment → AreSameTuples (IsWrittenTuple schema state fragment) (IsShownTuple tables fragment)
  same_tuples fragment mapped =
      let place : List Value → Place = λ tuple. place_at fragment.place (key_in_tuple schema.model (element_of schema.model fragment.set) fragment.pairs tuple) [] in
      record {
        shown = λ tuple written. ⊎_elim
            (λ (shown : IsShownTuple tables fragment tuple). shown)
            (λ (not : ¬ IsShownTuple tables fragment tuple). absurd (agrees (place tuple) (record {
              tables = tables;
              defined = are;
              tuple = tuple;
              broken = inl (fragment, mapped, inl (written, not), refl);
            })))
            (tuple_shown_or_not tables fragment tuple);
        written = λ tuple shown. ⊎_elim
            (λ (written : IsWrittenTuple schema state fragment tuple). written)
            (λ (not : ¬ IsWrittenTuple schema state fragment tuple). absurd (agrees (place tuple) (record {
              tables = tables;
              defined = are;
              tuple = tuple;
              broken = inl (fragment, mapped, inr (shown, not), refl);
            })))
            (tuple_written_or_not schema is_a decides state fragment tuple);
      }

  same_link_tuples : (fragment : LinkFragment) → Contains schema.mapping.links fragment
      → AreSameTuples (IsWrittenLinkTuple schema state fragment) (IsShownLinkTuple tables fragment)
  same_link_tuples fragment mapped =
      let HasAssoc : LinkFragment → Type 0 = λ f. (assoc : Assoc) × At schema.model.assocs f.assoc.index assoc in
      let found = All-contains HasAssoc schema.mapping.links fragment has_assocs mapped in
      let place : List Value → Place = λ tuple. place_at fragment.place (keys_in_tuple schema.model found.0 fragment tuple) [] in
      record {
        shown = λ tuple written. ⊎_elim
            (λ (shown : IsShownLinkTuple tables fragment tuple). shown)
            (λ (not : ¬ IsShownLinkTuple tables fragment tuple). absurd (agrees (place tuple) (record {
              tables = tables;
              defined = are;
              tuple = tuple;
              broken = inr (fragment, found.0, mapped, found.1, inl (written, not), refl);
            })))
            (link_tuple_shown_or_not tables fragment tuple);
        written = λ tuple shown. ⊎_elim
            (λ (written : IsWrittenLinkTuple schema state fragment tuple). written)
            (λ (not : ¬ IsWrittenLinkTuple schema state fragment tuple). absurd (agrees (place tuple) (record {
              tables = tables;
              defined = are;
              tuple = tuple;
              broken = inr (fragment, found.0, mapped, found.1, inr (shown, not), refl);
            })))
            (link_tuple_written_or_not schema state fragment found.0 found.1 tuple);
      }

  pub satisfied : Satisfies schema state tables
  satisfied = record {
    fragments = all_from_members (λ fragment. AreSameTuples (IsWrittenTuple schema state fragment) (IsShownTuple tables fragment)) schema.mapping.fragments same_tuples;
    links = all_from_members (λ fragment. AreSameTuples (IsWrittenLinkTuple schema state fragment) (IsShownLinkTuple tables fragment)) schema.mapping.links same_link_tuples;
  }

-- each legal state has good tables where no legal state fails
pub stored : (schema : Schema) (is_a : TypeId → TypeId → Bool) → DecidesTypes schema.model is_a → IsWellWritten schema → HasTables schema → HasAssocs schema
    → InheritsKeys schema.model → HoldsValues schema
    → RoundTrips schema → (state : State) → IsLegal schema.model state → HasGoodTables schema state
stored schema is_a decides fits has_tables has_assocs inherits holds trips state legal =
    let no_clash = no_clash_from_none schema fits has_tables state (λ place fails. trips kind.Clash place state state (record { legal = legal; fails = fails })) in
    let are = tables_are schema fits state (writings_of is_a schema state) (are_writings is_a schema decides state) no_clash in
    record {
      tables = tables_of is_a schema state;
      defined = are;
      legal = legal_tables schema inherits holds state legal (tables_of is_a schema state) are
          (λ place fails. trips kind.Null place state state (record { legal = legal; fails = fails }))
          (λ place fails. trips kind.Dangling place state state (record { legal = legal; fails = fails }));
      satisfied = satisfied schema is_a decides has_assocs state (tables_of is_a schema state) are
          (λ place fails. trips kind.Disagrees place state state (record { legal = legal; fails = fails }));
    }
