-- The rows and cells of the pattern of a focus are those of what the focus writes.
use Rattle.std.proofs.Common.{◌≡◌, ◌↔◌, inl, inr, ◌<◌, List, ◌++◌, length, Contains, false, IsTrue, refl, sym, ap, subst, ◌∙◌}
use Rattle.std.proofs.lemmas.List.Elements.{All-contains}
use Rattle.emc_base.proofs.Lists.{item_at}
use Rattle.emc_base.proofs.Mapped.{contains_at}
use Rattle.emc_base.proofs.Numbered.{map_contains}
use Rattle.emc_base.proofs.facts.Standing.{some_item}
use Rattle.round_trip.specs.Words.{TableId, ColId, SetId, Assoc, Column, Cond, CondOn, Fragment, LinkFragment, Pair, Table, Value, At}
use Rattle.edm_types.specs.declared.mapping.CondOn.TheVariants as on
use Rattle.round_trip.specs.soundness.mappings.Mappings.{HasFragmentIds, HasLinkFragmentIds, HasPairIds, IsCondId}
use Rattle.round_trip.specs.soundness.Stores.{IsColId, IsKeyColumn, IsSoundTable, IsTableId}
use Rattle.member_groups.specs.Tested.{HasCondition}
use Rattle.schema_laws.specs.state_demand.Owners.{IsJoinedTo, IsOwned}
use Rattle.schema_laws.proofs.state_demand.lists.Lists.{any_of}
use Rattle.schema_laws.proofs.sound_demand.Fitting.{columns_are, link_ids, sound_fragment}
use Rattle.regions.specs.declared.region.Region.{Region}
use Rattle.regions.specs.declared.pattern.Symbol.{Symbol}
use Rattle.regions.specs.declared.pattern.PatternRow.{PatternRow}
use Rattle.regions.specs.declared.pattern.Focus.{Focus}
use Rattle.regions.specs.declared.pattern.Focus.TheVariants as focus
use Rattle.regions.specs.Basis.{Basis}
use Rattle.regions.specs.Patterns.{Valuation, cell_symbols, is_written, pattern_of, pattern_row, writings_of}
use Rattle.regions.specs.Regions.{regions_of}
use Rattle.regions.specs.Symbols.{SymbolWriting, link_fragment_writing, link_fragments_of, region_writings}
use Rattle.regions.specs.region_laws.Concrete.{HasSymbol}
use Rattle.regions.specs.region_laws.IsBasis.{IsBasis}
use Rattle.regions.proofs.region_laws.writings.Cells.{Decides-written}
use Rattle.regions.proofs.region_laws.writings.Rows.{row_cells, rows_all, rows_only}
use Rattle.regions.specs.region_laws.pattern.Listed.{HasCell, Lists}
use Rattle.regions.proofs.region_laws.pattern.Cells.{cell_of as made_cell, listed_written, writing_to}
use Rattle.regions.proofs.region_laws.pattern.Keys.{owned_here}
use Rattle.regions.proofs.region_laws.pattern.symbols.Origins.{From, IsRegionWriter, by_cond, by_end, by_host, by_pair, chosen_of, is_from, link_of, region_writer}
use Rattle.regions.proofs.region_laws.pattern.symbols.Hosting.{one_link, side_among}
use Rattle.region_states.specs.focus.Held.{HasRow, ListsValue}

module _ (basis : Basis) (is : IsBasis basis) where
  abbrev HasTable : TableId → Type 0
  HasTable t = (table : Table) × At basis.schema.store.tables t.index table

  -- the table of a fragment is there
  moved : (t u : TableId) → u ≡ t → IsTableId basis.schema.store u → HasTable t
  moved t u same there = let P : TableId → Type 0 = λ one. IsTableId basis.schema.store one in
      item_at basis.schema.store.tables t.index (subst P same there)

  fragment_ids : (fragment : Fragment) → Contains basis.schema.mapping.fragments fragment → HasFragmentIds basis.schema fragment
  fragment_ids fragment mapped = (sound_fragment basis.schema is.sound fragment mapped).ids

  link_fragment_ids : (fragment : LinkFragment) → Contains basis.schema.mapping.links fragment → HasLinkFragmentIds basis.schema fragment
  link_fragment_ids fragment mapped = link_ids basis.schema is.sound fragment mapped

  -- a table that a focus writes is one of the store
  pub written_table : (of : Focus) (t : TableId) → IsTrue (is_written (writings_of basis of) t) → HasTable t
  written_table (focus.Entity region) t told =
      let found = writing_to basis.schema.store (region_writings basis region) t told in
      by found.0 found.2 (region_writer basis region found.0 found.1)
    where
      by : (writing : SymbolWriting) → writing.table ≡ t → IsRegionWriter basis region writing → HasTable t
      by writing to (inl (fragment, among, same)) = moved t fragment.table (ap (λ (w : SymbolWriting). w.table) same ∙ to)
          (fragment_ids fragment (chosen_of basis region fragment among).0).table
      by writing to (inr (host, fragment, is_host, linked, among, same)) = moved t fragment.table (ap (λ (w : SymbolWriting). w.table) same ∙ to)
          (link_fragment_ids fragment (link_of basis host.assoc fragment among).0).table
  written_table (focus.Link a) t told =
      let found = writing_to basis.schema.store (writings_of basis (focus.Link a)) t told in
      let made = map_contains (link_fragment_writing false false) (link_fragments_of basis a) found.0 found.1 in
      moved t made.0.table (ap (λ (w : SymbolWriting). w.table) made.2 ∙ found.2) (link_fragment_ids made.0 (link_of basis a made.0 made.1).0).table

  -- the pattern has a row of a table just where the table is written
  pub has_row : (of : Focus) (t : TableId) → IsTrue (is_written (writings_of basis of) t) ↔ HasRow (pattern_of basis of) t
  has_row of t = (there, back)
    where
      there : IsTrue (is_written (writings_of basis of) t) → HasRow (pattern_of basis of) t
      there told =
          let table = written_table of t told in
          (pattern_row (writings_of basis of) t table.0, rows_all basis.schema.store (writings_of basis of) t table.0 table.1 told, refl)

      back : HasRow (pattern_of basis of) t → IsTrue (is_written (writings_of basis of) t)
      back (row, has, to) =
          let found = rows_only basis.schema.store (writings_of basis of) row has in
          let same : found.0 ≡ t = sym (ap (λ (r : PatternRow). r.table) found.4) ∙ to in
          let P : TableId → Type 0 = λ u. IsTrue (is_written (writings_of basis of) u) in
          subst P same found.3

  -- where a symbol comes from, its column is one of the table
  abbrev HasColumnAt : TableId → ColId → Type 0
  HasColumnAt t col = (table : Table) × (column : Column) × At basis.schema.store.tables t.index table × At table.cols col.index column

  column_there : (t u : TableId) (c d : ColId) → u ≡ t → d ≡ c → IsTableId basis.schema.store u → IsColId basis.schema.store u d → HasColumnAt t c
  column_there t u c d tables cols in_store in_table =
      let table = moved t u tables in_store in
      let P : TableId → Type 0 = λ one. IsColId basis.schema.store one d in
      let Q : ColId → Type 0 = λ one. IsColId basis.schema.store t one in
      let Short : List Column → Type 0 = λ list. c.index < length list in
      let within : c.index < length table.0.cols = subst Short (columns_are basis.schema.store t table.0 table.1) (subst Q cols (subst P tables in_table)) in
      let column = item_at table.0.cols c.index within in
      (table.0, column.0, table.1, column.1)

  cond_there : (t u : TableId) (c : ColId) (cond : Cond) → u ≡ t → cond.on ≡ on.Col c → IsTableId basis.schema.store u → IsCondId basis.schema u cond.on → HasColumnAt t c
  cond_there t u c cond tables on_col in_store in_table =
      let P : CondOn → Type 0 = λ what. IsCondId basis.schema u what in
      column_there t u c c tables refl in_store (subst P on_col in_table)

  link_pair_there : (fragment : LinkFragment) → Contains basis.schema.mapping.links fragment → (t : TableId) (c : ColId) (pair : Pair) → fragment.table ≡ t
      → Contains (fragment.first ++ fragment.second) pair → pair.col ≡ c → HasColumnAt t c
  link_pair_there fragment mapped t c pair to among at_col =
      let ids = link_fragment_ids fragment mapped in
      column_there t fragment.table c pair.col to at_col ids.table
      (All-contains (HasPairIds basis.schema fragment.table) (fragment.first ++ fragment.second) pair ids.pairs among).1

  from_there : (of : Focus) (t : TableId) (c : ColId) (one : Symbol) → From basis of t c one → HasColumnAt t c
  from_there of t c one (by_pair fragment pair mapped to among at_col same chosen) =
      let ids = fragment_ids fragment mapped in
      column_there t fragment.table c pair.col to at_col ids.table (All-contains (HasPairIds basis.schema fragment.table) fragment.pairs pair ids.pairs among).1
  from_there of t c one (by_host fragment first pair mapped to among at_col same hosting) =
      link_pair_there fragment mapped t c pair to (side_among first fragment pair among) at_col
  from_there of t c one (by_end fragment first pair mapped to among at_col same partner) =
      link_pair_there fragment mapped t c pair to (side_among first fragment pair among) at_col
  from_there of t c one (by_cond cond asked on_col gives) = by asked
    where
      by : HasCondition basis.schema t cond → HasColumnAt t c
      by (inl (fragment, mapped, to, among)) =
          let ids = fragment_ids fragment mapped in
          let P : Cond → Type 0 = λ asks. IsCondId basis.schema fragment.table asks.on in
          cond_there t fragment.table c cond to on_col ids.table (All-contains P fragment.conds cond ids.conds among)
      by (inr (fragment, mapped, to, among)) =
          let ids = link_fragment_ids fragment mapped in
          let P : Cond → Type 0 = λ asks. IsCondId basis.schema fragment.table asks.on in
          cond_there t fragment.table c cond to on_col ids.table (All-contains P fragment.conds cond ids.conds among)

  -- a symbol that is written to a cell is listed there
  pub lists_written : (of : Focus) (t : TableId) (c : ColId) (one : Symbol) → Contains (cell_symbols (writings_of basis of) t c) one → Lists (pattern_of basis of) t c one
  lists_written of t c one has =
      let writings : List SymbolWriting = writings_of basis of in
      let by = listed_written writings t c one has in
      let there = from_there of t c one (is_from basis of t c one by) in
      let told : IsTrue (is_written writings t) = (Decides-written writings t).1 (any_of (λ (w : SymbolWriting). w.table ≡ t) writings by.writing by.is_writing by.to_table) in (
        cell_symbols writings t c,
        record {
          row = pattern_row writings t there.0;
          is_row = rows_all basis.schema.store writings t there.0 there.2 told;
          of_table = refl;
          is_cell = row_cells basis.schema.store writings t there.0 c there.1 there.3;
        },
        has,
      )

  pub has_symbol : (valuation : Valuation) (of : Focus) (t : TableId) (c : ColId) (value : Value)
      → HasSymbol valuation (writings_of basis of) t c value ↔ ListsValue (pattern_of basis of) valuation t c value
  has_symbol valuation of t c value = (
    (λ by. (by.one, lists_written of t c by.one by.listed, by.is)),
    (λ by.
        let told = made_cell basis.schema.store (writings_of basis of) t c by.1.0 by.1.1 in
        record { one = by.0; listed = subst (λ list. Contains list by.0) told.is by.1.2; is = by.2 }),
  )

  -- each row of a region's pattern is of a table that the region's set owns
  pub row_owned : (s : SetId) (region : Region) → Contains (regions_of basis s) region → (row : PatternRow) → Contains (pattern_of basis (focus.Entity region)).rows row
      → (table : Table) × (pairing : List Pair) × At basis.schema.store.tables row.table.index table × IsOwned basis.schema row.table s pairing
  row_owned s region among row has =
      let writings : List SymbolWriting = region_writings basis region in
      let found = rows_only basis.schema.store writings row has in
      let t : TableId = found.0 in
      let table : Table = found.1 in
      let sound : IsSoundTable table = All-contains IsSoundTable basis.schema.store.tables table is.sound.store.tables
      (contains_at basis.schema.store.tables t.index table found.2) in
      let col = some_item table.key sound.key.some in
      let key : IsKeyColumn table col.0 = All-contains (IsKeyColumn table) table.key col.0 sound.key.columns col.1 in
      let cell : HasCell (pattern_of basis (focus.Entity region)) t col.0 (cell_symbols writings t col.0) = record {
        row = pattern_row writings t table;
        is_row = rows_all basis.schema.store writings t table found.2 found.3;
        of_table = refl;
        is_cell = row_cells basis.schema.store writings t table col.0 key.column key.is_column;
      } in
      let owned = owned_here basis is s region among (record { t = t; col = col.0; cell = cell_symbols writings t col.0; has = cell }) in
      let same : t ≡ row.table = sym (ap (λ (r : PatternRow). r.table) found.4) in
      let P : TableId → Type 0 = λ u. At basis.schema.store.tables u.index table × IsOwned basis.schema u s owned.0 in
      let there : P row.table = subst P same (found.2, owned.1) in
      (table, owned.0, there.0, there.1)

  -- each row of the pattern of a joined association is of the table of its link fragment
  pub row_joined : (t : TableId) (fragment : LinkFragment) (assoc : Assoc) → IsJoinedTo basis.schema t fragment assoc → (row : PatternRow)
      → Contains (pattern_of basis (focus.Link fragment.assoc)).rows row → row.table ≡ t
  row_joined t fragment assoc joined row has =
      let writings : List SymbolWriting = writings_of basis (focus.Link fragment.assoc) in
      let found = rows_only basis.schema.store writings row has in
      let writing = writing_to basis.schema.store writings found.0 found.3 in
      let made = map_contains (link_fragment_writing false false) (link_fragments_of basis fragment.assoc) writing.0 writing.1 in
      let by = link_of basis fragment.assoc made.0 made.1 in
      let same : made.0 ≡ fragment = one_link basis is made.0 fragment by.0 joined.is_fragment by.1 in
      ap (λ (r : PatternRow). r.table) found.4 ∙ sym writing.2 ∙ sym (ap (λ (w : SymbolWriting). w.table) made.2)
      ∙ ap (λ (f : LinkFragment). f.table) same ∙ joined.to_table
