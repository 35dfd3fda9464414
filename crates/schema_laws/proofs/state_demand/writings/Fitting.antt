-- What is written to a column, and that a writing fits its table.
use Rattle.std.proofs.Common.{◌≡◌, ⊎_elim, List, [], ◌∷◌, ◌++◌, map, ◌==◌, Contains, sym, ap, ap₂, subst, ◌∙◌}
use Rattle.std.proofs.lemmas.Bool.{cond_both}
use Rattle.std.proofs.lemmas.Bool.Decides.{Decides-eqb, not_from_Decides}
use Rattle.std.proofs.lemmas.List.{map-append}
use Rattle.std.proofs.lemmas.List.Elements.{All-contains}
use Rattle.std.proofs.lemmas.Simd.{map-map}
use Rattle.round_trip.specs.Words.{TypeId, TableId, ColId, Value, EntityModel, Assoc, Table, Fragment, LinkFragment, Pair, Schema, Entity, Link, State, At, key_props, value_beside, value_of, Writing, Writes, EntityWrites, LinkWrites, entity_cells, end_cells, link_cells, written_to, key_columns, written_key}
use Rattle.round_trip.proofs.Lookups.{key_columns_at}
use Rattle.schema_laws.specs.state_demand.WellWritten.{FitsTable, IsWellWritten, cols_of}
use Rattle.schema_laws.specs.state_demand.Writings.{entity_writing, link_writing}
use Rattle.schema_laws.proofs.state_demand.lists.Lists.{head_stands, member_cases, none_in_nil, tail_stands}

-- the columns of written cells
abbrev pub cell_cols : List (ColId × Value) → List ColId
cell_cols cells = map (λ cell. cell.0) cells

-- a column that is written holds its written value
pub written_stands : (cells : List (ColId × Value)) (col : ColId) → Contains (cell_cols cells) col → Contains cells (col, written_to cells col)
written_stands [] col has = absurd (none_in_nil col has)
written_stands (cell ∷ cells) col has =
    let P : Value → Type 0 = λ value. Contains {X = ColId × Value} (cell ∷ cells) (col, value) in
    cond_both (cell.0.index == col.index) cell.1 (written_to cells col) P
    (λ told.
    let number = (Decides-eqb cell.0.index col.index).0 told in
    let same : cell ≡ (col, cell.1) = λ k. (record { index = number k }, cell.1) in
    subst (Contains {X = ColId × Value} (cell ∷ cells)) same (head_stands {X = ColId × Value} cell cells))
    (λ told. ⊎_elim
    (λ (here : col ≡ cell.0). absurd (not_from_Decides (cell.0.index == col.index) (Decides-eqb cell.0.index col.index) told (sym (ap (λ (c : ColId). c.index) here))))
    (λ (later : Contains (cell_cols cells) col). tail_stands {X = ColId × Value} cell cells (col, written_to cells col) (written_stands cells col later))
    (member_cases cell.0 (cell_cols cells) col has))

-- the columns that an entity writes are those of the pairs
pub entity_cols : (model : EntityModel) (fragment : Fragment) (entity : Entity) → cell_cols (entity_cells model fragment entity) ≡ cols_of fragment.pairs
entity_cols model fragment entity = map-map (λ (cell : ColId × Value). cell.0) (λ (pair : Pair). (pair.col, value_of model entity pair.prop)) fragment.pairs

-- and so it is at each end of a link
end_cols : (model : EntityModel) (ty : TypeId) (pairs : List Pair) (key : List Value) → cell_cols (end_cells model ty pairs key) ≡ cols_of pairs
end_cols model ty pairs key = map-map (λ (cell : ColId × Value). cell.0) (λ (pair : Pair). (pair.col, value_beside pair.prop (key_props model ty) key)) pairs

pub link_cols : (model : EntityModel) (assoc : Assoc) (fragment : LinkFragment) (link : Link)
    → cell_cols (link_cells model assoc fragment link) ≡ cols_of (fragment.first ++ fragment.second)
link_cols model assoc fragment link =
    map-append (λ (cell : ColId × Value). cell.0) (end_cells model assoc.first.ty fragment.first link.first) (end_cells model assoc.second.ty fragment.second link.second)
    ∙ ap₂ (λ xs ys. xs ++ ys) (end_cols model assoc.first.ty fragment.first link.first) (end_cols model assoc.second.ty fragment.second link.second)
    ∙ sym (map-append (λ (pair : Pair). pair.col) fragment.first fragment.second)

-- the key that a writing writes, over its table
pub key_written : (schema : Schema) (t : TableId) (table : Table) → At schema.store.tables t.index table → (writing : Writing) → writing.table ≡ t
    → written_key schema.store writing ≡ map (written_to writing.cells) table.key
key_written schema t table here writing to =
    ap (λ u. map (written_to writing.cells) (key_columns schema.store u)) to ∙ ap (map (written_to writing.cells)) (key_columns_at schema.store t table here)

-- a writing fits its table
module _ (schema : Schema) (fits : IsWellWritten schema) (state : State) where
  abbrev WritingFits : Writing → Type 0
  WritingFits writing = (table : Table) → At schema.store.tables writing.table.index table → FitsTable table (cell_cols writing.cells) writing.conds

  pub writing_fits : (writing : Writing) → Writes schema state writing → WritingFits writing
  writing_fits writing writes = ⊎_elim
      (λ (by : (fragment : Fragment) × (entity : Entity) × EntityWrites schema state fragment entity × (writing ≡ entity_writing schema.model fragment entity)).
      let fragment : Fragment = by.0 in
      let Fits : Fragment → Type 0 = λ f. (table : Table) → At schema.store.tables f.table.index table → FitsTable table (cols_of f.pairs) f.conds in
      let told : Fits fragment = All-contains Fits schema.mapping.fragments fragment fits.fragments by.2.mapped in
      subst WritingFits (sym by.3) (λ table here. subst (λ cols. FitsTable table cols fragment.conds) (sym (entity_cols schema.model fragment by.1)) (told table here)))
      (λ (by : (fragment : LinkFragment) × (assoc : Assoc) × (link : Link) × LinkWrites schema state fragment assoc link ×
      (writing ≡ link_writing schema.model fragment assoc link)).
      let fragment : LinkFragment = by.0 in
      let Fits : LinkFragment → Type 0 = λ f. (table : Table) → At schema.store.tables f.table.index table → FitsTable table (cols_of (f.first ++ f.second)) f.conds in
      let told : Fits fragment = All-contains Fits schema.mapping.links fragment fits.links by.3.mapped in
      subst WritingFits (sym by.4) (λ table here. subst (λ cols. FitsTable table cols fragment.conds) (sym (link_cols schema.model by.1 fragment by.2)) (told table here)))
      writes
