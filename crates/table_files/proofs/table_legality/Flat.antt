-- What the three walks find is just what breaks the rules.
use Rattle.std.proofs.Common.{◌≡◌, ◌⊎◌, inl, inr, ℕ, List, [], ◌∷◌, map, Option, Result, IfOk, refl, sym, ap, subst, ◌∙◌}
use Rattle.std.proofs.lemmas.Result.{IfOk-weaker}
use Rattle.emc_base.proofs.facts.Images.{map_at}
use Rattle.emc_base.proofs.Joined.{at_map}
use Rattle.groupings.specs.least_fault.Least.{Among, IsEarlierOf, IsLeast}
use Rattle.groupings.proofs.least_fault.Leasts.{least_of_searches, least_same}
use Rattle.round_trip.specs.Words.{Value, Null, place_at, StoreModel, Table, Column, Row, Tables, rows_in, cell_of, row_key}
use Rattle.round_trip.specs.legality.TableBreaches.{StandsAtColumn, BreaksRowKey, BreaksForeignKey}
use Rattle.entity_state.specs.breach_order.Founds.{found_cmp}
use Rattle.entity_state.specs.breach_order.FoundOrder.{found_cmp_total}
use Rattle.entity_state.specs.breach_order.Repeats.{IsFoundRepeat}
use Rattle.entity_state.proofs.breach_order.Finds.{from_parts}
use Rattle.entity_state.specs.declared.breach_order.found.Found.{Found}
use Rattle.table_files.specs.declared.table_legality.rule.TableRule.{TableRule}
use Rattle.table_files.specs.declared.table_legality.rule.TableRule.TheVariants.{NullCell, CellDomain, RowKey, Reference}
use Rattle.table_files.specs.table_legality.Rules.{rule_number}
use Rattle.table_files.specs.table_legality.Cells.{BreaksInColumn, IsCellBreach}
use Rattle.table_files.specs.table_legality.References.{IsLostByKey}
use Rattle.table_files.specs.table_legality.Tells.{BreaksTables}

module _ (store : StoreModel) (tables : Tables) where
  abbrev rows_of : ℕ → List Row
  rows_of t = rows_in tables (record { index = t })

  -- the cells that break B1 or B2
  abbrev pub FoundCells : Found → Type 0
  FoundCells = Among (λ t table. Among (λ i row. Among (IsCellBreach t table i row) table.cols) (rows_of t)) store.tables

  -- the rows that break B3
  abbrev pub FoundKeys : Found → Type 0
  FoundKeys = Among (λ t table. IsFoundRepeat 3 t (λ key. place_at table.name key []) (map (row_key table) (rows_of t))) store.tables

  -- the rows that break B4
  abbrev pub FoundReferences : Found → Type 0
  FoundReferences = Among (IsLostByKey store tables) store.keys

  cells_break : (found : Found) → FoundCells found → BreaksTables store tables found
  cells_break found some = by some.holds.holds.holds.rule some.holds.holds.holds.broken some.holds.holds.holds.found_is
    where
      by : (rule : TableRule) → BreaksInColumn (cell_of some.holds.item (record { index = some.holds.holds.i })) some.holds.holds.item rule
          → found ≡ record { rule = rule_number rule; spot = some.i ∷ some.holds.i ∷ some.holds.holds.i ∷ []; place = place_at some.item.name (row_key some.item some.holds.item) some.holds.holds.item.name }
          → BreaksTables store tables found
      by NullCell broken is = inl (
        ap (λ (f : Found). f.rule) is,
        (
          some.holds.holds.item,
          record {
            t = some.i;
            i = some.holds.i;
            j = some.holds.holds.i;
            table = some.item;
            row = some.holds.item;
            stands = record { is_table = some.here; is_row = some.holds.here };
            is_column = some.holds.holds.here;
            value_is = sym broken.0;
            spot_is = ap (λ (f : Found). f.spot) is;
            place_is = ap (λ (f : Found). f.place) is;
          },
          broken.1,
        ),
      )
      by CellDomain broken is = inr (inl (
        ap (λ (f : Found). f.rule) is,
        (
          cell_of some.holds.item (record { index = some.holds.holds.i }),
          some.holds.holds.item,
          record {
            t = some.i;
            i = some.holds.i;
            j = some.holds.holds.i;
            table = some.item;
            row = some.holds.item;
            stands = record { is_table = some.here; is_row = some.holds.here };
            is_column = some.holds.holds.here;
            value_is = refl;
            spot_is = ap (λ (f : Found). f.spot) is;
            place_is = ap (λ (f : Found). f.place) is;
          },
          broken.0,
          broken.1,
        ),
      ))
      by RowKey broken is = absurd broken
      by Reference broken is = absurd broken

  keys_break : (found : Found) → FoundKeys found → BreaksTables store tables found
  keys_break found some =
      let table : Table = some.item in
      let repeat = some.holds.repeat in
      let row = map_at (row_key table) (rows_of some.i) some.holds.i repeat.item repeat.here in
      let other = map_at (row_key table) (rows_of some.i) repeat.earlier repeat.other repeat.there in
      inr (inr (inl (
        ap (λ (f : Found). f.rule) some.holds.found_is,
        record {
          t = some.i;
          i = some.holds.i;
          earlier = repeat.earlier;
          table = table;
          row = row.0;
          other = other.0;
          stands = record { is_table = some.here; is_row = row.1 };
          other_stands = record { is_table = some.here; is_row = other.1 };
          before = repeat.before;
          same = other.2 ∙ repeat.like ∙ sym row.2;
          spot_is = ap (λ (f : Found). f.spot) some.holds.found_is;
          place_is = ap (λ (f : Found). f.place) some.holds.found_is ∙ ap (λ (key : List Value). place_at table.name key []) (sym row.2);
        },
      )))

  references_break : (found : Found) → FoundReferences found → BreaksTables store tables found
  references_break found some =
      let by_key = some.holds in
      let lost = by_key.lost in
      inr (inr (inr (
        ap (λ (f : Found). f.rule) lost.holds.found_is,
        record {
          i = lost.i;
          k = some.i;
          table = by_key.table;
          row = lost.item;
          key = some.item;
          is_key = some.here;
          stands = record { is_table = by_key.is_table; is_row = lost.here };
          refers = lost.holds.refers;
          broken = lost.holds.broken;
          spot_is = ap (λ (f : Found). f.spot) lost.holds.found_is;
          place_is = ap (λ (f : Found). f.place) lost.holds.found_is;
        },
      )))

  cell_found : (found : Found) (value : Value) (column : Column) (rule : TableRule) → StandsAtColumn store tables found.spot found.place value column
      → BreaksInColumn value column rule → found.rule ≡ rule_number rule → FoundCells found
  cell_found found value column rule stands broken is = record {
    i = stands.t;
    item = stands.table;
    here = stands.stands.is_table;
    holds = record {
      i = stands.i;
      item = stands.row;
      here = stands.stands.is_row;
      holds = record {
        i = stands.j;
        item = column;
        here = stands.is_column;
        holds = record {
          rule = rule;
          broken = subst (λ (v : Value). BreaksInColumn v column rule) stands.value_is broken;
          found_is = from_parts found (rule_number rule) (stands.t ∷ stands.i ∷ stands.j ∷ [])
              (place_at stands.table.name (row_key stands.table stands.row) column.name) is stands.spot_is stands.place_is;
        };
      };
    };
  }

  key_found : (found : Found) → found.rule ≡ 3 → BreaksRowKey store tables found.spot found.place → FoundKeys found
  key_found found is breaks = record {
    i = breaks.t;
    item = breaks.table;
    here = breaks.stands.is_table;
    holds = record {
      i = breaks.i;
      repeat = record {
        earlier = breaks.earlier;
        before = breaks.before;
        item = row_key breaks.table breaks.row;
        other = row_key breaks.table breaks.other;
        here = at_map (row_key breaks.table) (rows_of breaks.t) breaks.i breaks.row breaks.stands.is_row;
        there = at_map (row_key breaks.table) (rows_of breaks.t) breaks.earlier breaks.other breaks.other_stands.is_row;
        like = breaks.same;
      };
      found_is = from_parts found 3 (breaks.t ∷ breaks.i ∷ []) (place_at breaks.table.name (row_key breaks.table breaks.row) []) is breaks.spot_is breaks.place_is;
    };
  }

  reference_found : (found : Found) → found.rule ≡ 4 → BreaksForeignKey store tables found.spot found.place → FoundReferences found
  reference_found found is breaks = record {
    i = breaks.k;
    item = breaks.key;
    here = breaks.is_key;
    holds = record {
      table = breaks.table;
      is_table = breaks.stands.is_table;
      lost = record {
        i = breaks.i;
        item = breaks.row;
        here = breaks.stands.is_row;
        holds = record {
          refers = breaks.refers;
          broken = breaks.broken;
          found_is = from_parts found 4 (breaks.key.from.index ∷ breaks.i ∷ breaks.k ∷ [])
              (place_at breaks.table.name (row_key breaks.table breaks.row) breaks.key.name) is breaks.spot_is breaks.place_is;
        };
      };
    };
  }

  -- one of the three walks finds it
  abbrev FoundBySome : Found → Type 0
  FoundBySome found = (FoundCells found ⊎ FoundKeys found) ⊎ FoundReferences found

  found_breaks : (found : Found) → FoundBySome found → BreaksTables store tables found
  found_breaks found (inl (inl cell)) = cells_break found cell
  found_breaks found (inl (inr key)) = keys_break found key
  found_breaks found (inr reference) = references_break found reference

  breach_found : (found : Found) → BreaksTables store tables found → FoundBySome found
  breach_found found (inl null) = inl (inl (cell_found found Null null.1.0 NullCell null.1.1 (refl, null.1.2) null.0))
  breach_found found (inr (inl domain)) = inl (inl (cell_found found domain.1.0 domain.1.1 CellDomain domain.1.2 (domain.1.3, domain.1.4) domain.0))
  breach_found found (inr (inr (inl key))) = inl (inr (key_found found key.0 key.1))
  breach_found found (inr (inr (inr reference))) = inr (reference_found found reference.0 reference.1)

  -- the least that the walks find is the least breach
  pub least_breach : {E : Type 0} (cells keys references both found : Result (Option Found) E) → IfOk cells (IsLeast found_cmp FoundCells)
      → IfOk keys (IsLeast found_cmp FoundKeys) → IfOk references (IsLeast found_cmp FoundReferences) → IfOk both (IsEarlierOf found_cmp cells keys)
      → IfOk found (IsEarlierOf found_cmp both references) → IfOk found (IsLeast found_cmp (BreaksTables store tables))
  least_breach cells keys references both found first second third of_tables all =
      let InTables : Found → Type 0 = λ fault. FoundCells fault ⊎ FoundKeys fault in
      IfOk-weaker found (IsLeast found_cmp FoundBySome) (IsLeast found_cmp (BreaksTables store tables))
      (λ least. least_same found_cmp FoundBySome (BreaksTables store tables) least found_breaks breach_found)
      (least_of_searches found_cmp found_cmp_total InTables FoundReferences both references found
      (least_of_searches found_cmp found_cmp_total FoundCells FoundKeys cells keys both first second of_tables) third all)
