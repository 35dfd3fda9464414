-- With the values of its symbols the pattern of a focus has exactly the rows and cells that fragments give.
use Rattle.std.proofs.Common.{◌≡◌, ◌↔◌, inl, inr, List, [], ◌∷◌, ◌++◌, map, slice_get, unwrap_or, All, Contains, Option, None, Some, IsTrue, refl, sym, ap, subst, ◌∙◌}
use Rattle.std.proofs.lemmas.List.Elements.{All-contains}
use Rattle.emc_base.proofs.Lists.{only_member}
use Rattle.emc_base.proofs.Mapped.{contains_at}
use Rattle.emc_base.proofs.Numbered.{map_contains}
use Rattle.round_trip.specs.Words.{TableId, ColId, AssocId, Value, Assoc, Fragment, LinkFragment, Link, Pair, Table, Writing, At, key_columns, written_key, written_to}
use Rattle.round_trip.specs.soundness.Stores.{IsKeyColumn, IsSoundTable}
use Rattle.round_trip.proofs.Lookups.{key_columns_at}
use Rattle.schema_laws.specs.state_demand.WellWritten.{FitsTable, cols_of}
use Rattle.schema_laws.specs.state_demand.Writings.{link_writing}
use Rattle.schema_laws.proofs.state_demand.lists.Lists.{none_in_nil}
use Rattle.schema_laws.proofs.state_demand.lists.Places.{map_agree}
use Rattle.schema_laws.proofs.state_demand.writings.Fitting.{cell_cols, entity_cols, key_written, link_cols, written_stands}
use Rattle.schema_laws.proofs.state_demand.writings.Given.{given_cell, gives_cell}
use Rattle.schema_laws.proofs.sound_demand.Fitting.{well_written}
use Rattle.regions.specs.declared.pattern.Symbol.{Symbol}
use Rattle.regions.specs.declared.pattern.Symbol.TheVariants as symbol
use Rattle.regions.specs.declared.pattern.PatternRow.{PatternRow}
use Rattle.regions.specs.declared.pattern.Focus.{Focus}
use Rattle.regions.specs.declared.pattern.Focus.TheVariants as focus
use Rattle.regions.specs.Basis.{Basis}
use Rattle.regions.specs.Patterns.{Valuation, by_entity, by_link, cell_symbols, is_written, pattern_of, pattern_row, value_under, writings_of}
use Rattle.regions.specs.Shown.{cell_in}
use Rattle.regions.specs.Symbols.{SymbolWriting}
use Rattle.regions.specs.region_laws.Concrete.{AreConcrete}
use Rattle.regions.specs.region_laws.Held.{Holding}
use Rattle.regions.specs.region_laws.IsBasis.{IsBasis}
use Rattle.regions.specs.region_laws.pattern.Allowed.{partner_parts}
use Rattle.regions.specs.region_laws.pattern.Described.{value_in}
use Rattle.regions.specs.region_laws.pattern.Listed.{HasCell, PatternCell}
use Rattle.regions.proofs.region_laws.pattern.Keys.{end_cell, key_cell, owned_here}
use Rattle.regions.proofs.region_laws.writings.Cells.{cells_concrete, rows_concrete}
use Rattle.regions.proofs.region_laws.writings.Rows.{row_cells, rows_all, rows_only}
use Rattle.region_states.specs.focus.Given.{Gives, GivesCell, GivesLink, GivesRow, HasConcreteCell, HasConcreteRow, HasLinkPerFlag, key_in}
use Rattle.region_states.proofs.focus.Given.{entity_given, link_given}
use Rattle.region_states.proofs.focus.Listed.{has_row, has_symbol}

-- a cell that lists something is there
cell_there : (found : Option (List Symbol)) (one : Symbol) → Contains (unwrap_or found []) one → found ≡ Some (unwrap_or found [])
cell_there None one has = absurd (none_in_nil one has)
cell_there (Some cell) one has = refl

-- a writing that holds the whole primary key of its table
abbrev IsWhole : Basis → Writing → Type 0
IsWhole basis writing = (table : Table) → At basis.schema.store.tables writing.table.index table → All (Contains (cell_cols writing.cells)) table.key

module _ (basis : Basis) (is : IsBasis basis) (of : Focus) (values : Valuation) (IsGiven : Writing → Type 0) (are : AreConcrete values (writings_of basis of) IsGiven)
    (whole : (writing : Writing) → IsGiven writing → IsWhole basis writing)
    (alone : (at : PatternCell basis of) → Contains (key_columns basis.schema.store at.t) at.col → (one : Symbol) × (at.cell ≡ one ∷ [])) where
  abbrev writings : List SymbolWriting
  writings = writings_of basis of

  module _ (t : TableId) (table : Table) (here : At basis.schema.store.tables t.index table) (told : IsTrue (is_written (writings_of basis of) t)) (writing : Writing)
      (given : IsGiven writing) (to : writing.table ≡ t) where
    abbrev row : PatternRow
    row = pattern_row (writings_of basis of) t table

    -- a writing to a row's table writes to the primary key what the row has there
    value_at : (col : ColId) → Contains table.key col → written_to writing.cells col ≡ value_in values (cell_in row col)
    value_at col is_key =
        let At_table : TableId → Type 0 = λ u. At basis.schema.store.tables u.index table in
        let writes : Contains (cell_cols writing.cells) col =
        All-contains (Contains (cell_cols writing.cells)) table.key col (whole writing given table (subst At_table (sym to) here)) is_key in
        let value : Value = written_to writing.cells col in
        let listed = (cells_concrete values (writings_of basis of) IsGiven are t col value).0
        (writing, (to, given), gives_cell writing col value (inl (written_stands writing.cells col writes))) in
        let sound : IsSoundTable table = All-contains IsSoundTable basis.schema.store.tables table is.sound.store.tables
        (contains_at basis.schema.store.tables t.index table here) in
        let column : IsKeyColumn table col = All-contains (IsKeyColumn table) table.key col sound.key.columns is_key in
        let cell : List Symbol = cell_symbols (writings_of basis of) t col in
        let is_cell : At row.cells col.index cell = row_cells basis.schema.store (writings_of basis of) t table col column.column column.is_column in
        let only = alone (record {
          t = t;
          col = col;
          cell = cell;
          has = record { row = row; is_row = rows_all basis.schema.store (writings_of basis of) t table here told; of_table = refl; is_cell = is_cell };
        }) (subst (λ cols. Contains cols col) (sym (key_columns_at basis.schema.store t table here)) is_key) in
        let same : listed.one ≡ only.0 = only_member cell only.0 listed.one only.1 listed.listed in
        listed.is
        ∙ ap (value_under values) same
        ∙ sym (ap (value_in values) only.1)
        ∙ sym (ap (λ found. value_in values (unwrap_or found [])) is_cell)

    made_key : written_key basis.schema.store writing ≡ key_in basis.schema.store values row
    made_key =
        let held : ColId → Value = λ col. value_in values (cell_in row col) in
        key_written basis.schema t table here writing to
        ∙ map_agree (written_to writing.cells) held table.key value_at
        ∙ sym (ap (map held) (key_columns_at basis.schema.store t table here))

  row_key : (writing : Writing) → IsGiven writing → (row : PatternRow) → Contains (pattern_of basis of).rows row → writing.table ≡ row.table
      → written_key basis.schema.store writing ≡ key_in basis.schema.store values row
  row_key writing given row has to =
      let found = rows_only basis.schema.store (writings_of basis of) row has in
      let P : PatternRow → Type 0 = λ one. written_key basis.schema.store writing ≡ key_in basis.schema.store values one in
      subst P (sym found.4) (made_key found.0 found.1 found.2 found.3 writing given (to ∙ ap (λ (one : PatternRow). one.table) found.4))

  pub rows : (t : TableId) (key : List Value) → GivesRow basis.schema.store IsGiven t key ↔ HasConcreteRow basis.schema.store (pattern_of basis of) values t key
  rows t key = (there, back)
    where
      there : GivesRow basis.schema.store IsGiven t key → HasConcreteRow basis.schema.store (pattern_of basis of) values t key
      there (writing, to) =
          let told = (rows_concrete values (writings_of basis of) IsGiven are t).0 (writing, to.to_table, to.given) in
          let found = (has_row basis is of t).0 told in
          record {
            row = found.0;
            is_row = found.1;
            of_table = found.2;
            at_key = sym (row_key writing to.given found.0 found.1 (to.to_table ∙ sym found.2)) ∙ to.to_key;
          }

      back : HasConcreteRow basis.schema.store (pattern_of basis of) values t key → GivesRow basis.schema.store IsGiven t key
      back at =
          let by = (rows_concrete values (writings_of basis of) IsGiven are t).1 ((has_row basis is of t).1 (at.row, at.is_row, at.of_table)) in (
            by.0,
            record { given = by.2; to_table = by.1; to_key = row_key by.0 by.2 at.row at.is_row (by.1 ∙ sym at.of_table) ∙ at.at_key },
          )

  pub cells : (t : TableId) (key : List Value) (col : ColId) (value : Value)
      → GivesCell basis.schema.store IsGiven t key col value ↔ HasConcreteCell basis.schema.store (pattern_of basis of) values t key col value
  cells t key col value = (there, back)
    where
      there : GivesCell basis.schema.store IsGiven t key col value → HasConcreteCell basis.schema.store (pattern_of basis of) values t key col value
      there (writing, to, fills) =
          let has = (cells_concrete values (writings_of basis of) IsGiven are t col value).0 (writing, (to.to_table, to.given), gives_cell writing col value fills) in
          let by = (has_symbol basis is values of t col value).0 has in
          let at = by.1.1 in
          record {
            at = record {
              row = at.row;
              is_row = at.is_row;
              of_table = at.of_table;
              at_key = sym (row_key writing to.given at.row at.is_row (to.to_table ∙ sym at.of_table)) ∙ to.to_key;
            };
            one = by.0;
            listed = subst (λ list. Contains list by.0) (sym (ap (λ found. unwrap_or found []) at.is_cell)) by.1.2;
            is = by.2;
          }

      back : HasConcreteCell basis.schema.store (pattern_of basis of) values t key col value → GivesCell basis.schema.store IsGiven t key col value
      back has =
          let at = has.at in
          let cell : HasCell (pattern_of basis of) t col (cell_in at.row col) =
          record { row = at.row; is_row = at.is_row; of_table = at.of_table; is_cell = cell_there (slice_get at.row.cells col.index) has.one has.listed } in
          let by = (cells_concrete values (writings_of basis of) IsGiven are t col value).1
          ((has_symbol basis is values of t col value).1 (has.one, (cell_in at.row col, cell, has.listed), has.is)) in (
            by.0,
            record { given = by.1.1; to_table = by.1.0; to_key = row_key by.0 by.1.1 at.row at.is_row (by.1.0 ∙ sym at.of_table) ∙ at.at_key },
            given_cell by.0 col value by.2,
          )

module _ (basis : Basis) (is : IsBasis basis) where
  -- what is written by a link fragment
  link_whole : (fragment : LinkFragment) → Contains basis.schema.mapping.links fragment → (assoc : Assoc) (link : Link)
      → IsWhole basis (link_writing basis.schema.model fragment assoc link)
  link_whole fragment mapped assoc link table here =
      let Fits : LinkFragment → Type 0 = λ one. (to : Table) → At basis.schema.store.tables one.table.index to → FitsTable to (cols_of (one.first ++ one.second)) one.conds in
      let fits = All-contains Fits basis.schema.mapping.links fragment (well_written basis.schema is.sound).links mapped table here in
      subst (λ cols. All (Contains cols) table.key) (sym (link_cols basis.schema.model assoc fragment link)) fits.writes_key

  module _ (held : Holding basis) (per_flag : HasLinkPerFlag basis held.region held.links) where
    abbrev values : Valuation
    values = by_entity basis.schema.model held.entity (partner_parts basis.schema.model held.links)

    abbrev IsGiven : Writing → Type 0
    IsGiven = Gives basis held.s held.entity held.links

    entity_whole : (writing : Writing) → IsGiven writing → IsWhole basis writing
    entity_whole writing (inl by) = subst (IsWhole basis) (sym by.is) (λ table here.
        let Fits : Fragment → Type 0 = λ one. (to : Table) → At basis.schema.store.tables one.table.index to → FitsTable to (cols_of one.pairs) one.conds in
        let fits = All-contains Fits basis.schema.mapping.fragments by.fragment (well_written basis.schema is.sound).fragments by.mapped table here in
        subst (λ cols. All (Contains cols) table.key) (sym (entity_cols basis.schema.model by.fragment held.entity)) fits.writes_key)
    entity_whole writing (inr by) = subst (IsWhole basis) (sym by.is) (link_whole by.fragment by.mapped by.at.assoc _)

    entity_alone : (at : PatternCell basis (focus.Entity held.region)) → Contains (key_columns basis.schema.store at.t) at.col → (one : Symbol) × (at.cell ≡ one ∷ [])
    entity_alone at key =
        let owned = owned_here basis is held.s held.region held.listed at in
        let pair = map_contains (λ (one : Pair). one.col) owned.0 at.col (subst (λ cols. Contains cols at.col) (sym owned.1.cols) key) in (
          symbol.Prop pair.0.prop,
          key_cell basis is held.s held.region held.listed at pair.0 (record { pairing = owned.0; owned = owned.1; paired = pair.1; at_col = pair.2 }),
        )

    pub entity_rows : (t : TableId) (key : List Value) → GivesRow basis.schema.store (Gives basis held.s held.entity held.links) t key
        ↔ HasConcreteRow basis.schema.store (pattern_of basis (focus.Entity held.region)) values t key
    entity_rows = rows basis is (focus.Entity held.region) values IsGiven (entity_given basis is held per_flag) entity_whole entity_alone

    pub entity_cells : (t : TableId) (key : List Value) (col : ColId) (value : Value) → GivesCell basis.schema.store (Gives basis held.s held.entity held.links) t key col value
        ↔ HasConcreteCell basis.schema.store (pattern_of basis (focus.Entity held.region)) values t key col value
    entity_cells = cells basis is (focus.Entity held.region) values IsGiven (entity_given basis is held per_flag) entity_whole entity_alone

  module _ (a : AssocId) (assoc : Assoc) (here : At basis.schema.model.assocs a.index assoc) (link : Link) where
    given_whole : (writing : Writing) → GivesLink basis a assoc link writing → IsWhole basis writing
    given_whole writing by = subst (IsWhole basis) (sym by.is) (link_whole by.fragment by.mapped assoc link)

    link_alone : (at : PatternCell basis (focus.Link a)) → Contains (key_columns basis.schema.store at.t) at.col → (one : Symbol) × (at.cell ≡ one ∷ [])
    link_alone at key = let end = end_cell basis is a at key in (symbol.End a end.first end.pair.prop, end.is)

    pub link_rows : (t : TableId) (key : List Value) → GivesRow basis.schema.store (GivesLink basis a assoc link) t key
        ↔ HasConcreteRow basis.schema.store (pattern_of basis (focus.Link a)) (by_link basis.schema.model assoc link) t key
    link_rows = rows basis is (focus.Link a) (by_link basis.schema.model assoc link) (GivesLink basis a assoc link) (link_given basis a assoc link) given_whole link_alone

    pub link_cells : (t : TableId) (key : List Value) (col : ColId) (value : Value) → GivesCell basis.schema.store (GivesLink basis a assoc link) t key col value
        ↔ HasConcreteCell basis.schema.store (pattern_of basis (focus.Link a)) (by_link basis.schema.model assoc link) t key col value
    link_cells = cells basis is (focus.Link a) (by_link basis.schema.model assoc link) (GivesLink basis a assoc link) (link_given basis a assoc link) given_whole link_alone
