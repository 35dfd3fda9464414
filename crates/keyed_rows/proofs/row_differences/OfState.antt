-- The tables of a state have one row for each key, and null in their free cells.
use Rattle.std.proofs.Common.{◌≡◌, ◌⊎◌, ⊎_elim, inl, inr, ◌<◌, ◌≤◌, List, ◌++◌, map, length, Bool, IsTrue, Contains, refl, sym, ap, subst, ◌∙◌, arith}
use Rattle.std.specs.Prelude.{Any}
use Rattle.std.proofs.lemmas.Bool.{cases_lt}
use Rattle.std.proofs.lemmas.List.Elements.{All-contains, Contains-append_cases, Contains-append_left, Contains-append_right}
use Rattle.emc_base.proofs.Lists.{all_from_members, item_at}
use Rattle.emc_base.proofs.Numbered.{map_contains}
use Rattle.emc_base.proofs.FoundItems.{some_member}
use Rattle.round_trip.specs.Words.{TableId, ColId, Value, Null, Assoc, Pair, Cond, Fragment, LinkFragment, Entity, Link, Row, Schema, State, Tables, DemandsCell, Fills, HasDemandedCells, IsFree, IsNamedBy, TablesAre, Writes, Writing, cell_of, end_cells, entity_cells, key_columns, key_props, link_cells, rows_in, value_beside, value_of}
use Rattle.edm_types.specs.declared.mapping.CondOn.TheVariants as on
use Rattle.edm_types.proofs.Lookups.{rows_beyond}
use Rattle.round_trip.proofs.Lookups.{key_columns_at}
use Rattle.table_files.specs.InOrder.{AreToldApartBy}
use Rattle.keyed_rows.specs.row_differences.SameButFree.{HaveNullFreeCells, HaveRowsApart}

-- a column that a writing fills by a cell or a condition is named
named : (pairs : List Pair) (writing : Writing) (col : ColId) (value : Value) → ((one : ColId × Value) → Contains writing.cells one → Any (λ pair. pair.col ≡ one.0) pairs)
    → Fills writing col value → IsNamedBy pairs writing.conds col
named pairs writing col value written (inl cell) = inl (written (col, value) cell)
named pairs writing col value written (inr (inl cond)) = inr (some_member (λ (one : Cond). one.on ≡ on.Col col) writing.conds _ cond refl)
named pairs writing col value written (inr (inr null)) = inr (some_member (λ (one : Cond). one.on ≡ on.Col col) writing.conds _ null.0 refl)

-- what is written by pairs is written to their columns
by_pair : (f : Pair → Value) (pairs : List Pair) (one : ColId × Value) → Contains (map (λ (pair : Pair). (pair.col, f pair)) pairs) one → (pair : Pair) × Contains pairs pair × (pair.col ≡ one.0)
by_pair f pairs one has =
    let found = map_contains (λ (pair : Pair). (pair.col, f pair)) pairs one has in
    (found.0, found.1, ap (λ (cell : ColId × Value). cell.0) found.2)

module _ (schema : Schema) (state : State) where
  -- nothing demands a free cell
  pub free_not_demanded : (t : TableId) (col : ColId) → IsFree schema t col → (key : List Value) (value : Value) → ¬ DemandsCell schema state t key col value
  free_not_demanded t col is key value demanded = by demanded.1.writes
    where
      by_entity : (fragment : Fragment) (entity : Entity) → Contains schema.mapping.fragments fragment
          → demanded.0 ≡ record { table = fragment.table; cells = entity_cells schema.model fragment entity; conds = fragment.conds } → ⊥
      by_entity fragment entity mapped same =
          let writing : Writing = record { table = fragment.table; cells = entity_cells schema.model fragment entity; conds = fragment.conds } in
          let to_table : fragment.table ≡ t = ap (λ (w : Writing). w.table) (sym same) ∙ demanded.1.to_table in
          All-contains (λ (one : Fragment). one.table ≡ t → ¬ IsNamedBy one.pairs one.conds col) schema.mapping.fragments fragment is.unnamed mapped to_table
          (named fragment.pairs writing col value
          (λ one has.
          let pair = by_pair (λ p. value_of schema.model entity p.prop) fragment.pairs one has in
          some_member (λ (p : Pair). p.col ≡ one.0) fragment.pairs pair.0 pair.1 pair.2)
          (subst (λ (w : Writing). Fills w col value) same demanded.2))

      by_link : (fragment : LinkFragment) (assoc : Assoc) (link : Link) → Contains schema.mapping.links fragment
          → demanded.0 ≡ record { table = fragment.table; cells = link_cells schema.model assoc fragment link; conds = fragment.conds } → ⊥
      by_link fragment assoc link mapped same =
          let writing : Writing = record { table = fragment.table; cells = link_cells schema.model assoc fragment link; conds = fragment.conds } in
          let to_table : fragment.table ≡ t = ap (λ (w : Writing). w.table) (sym same) ∙ demanded.1.to_table in
          let pairs : List Pair = fragment.first ++ fragment.second in
          All-contains (λ (one : LinkFragment). one.table ≡ t → ¬ IsNamedBy (one.first ++ one.second) one.conds col) schema.mapping.links fragment is.unlinked mapped to_table
          (named pairs writing col value
          (λ one has. ⊎_elim
          (λ (first : Contains (end_cells schema.model assoc.first.ty fragment.first link.first) one).
          let pair = by_pair (λ p. value_beside p.prop (key_props schema.model assoc.first.ty) link.first) fragment.first one first in
          some_member (λ (p : Pair). p.col ≡ one.0) pairs pair.0 (Contains-append_left fragment.first fragment.second pair.0 pair.1) pair.2)
          (λ (second : Contains (end_cells schema.model assoc.second.ty fragment.second link.second) one).
          let pair = by_pair (λ p. value_beside p.prop (key_props schema.model assoc.second.ty) link.second) fragment.second one second in
          some_member (λ (p : Pair). p.col ≡ one.0) pairs pair.0 (Contains-append_right fragment.first fragment.second pair.0 pair.1) pair.2)
          (Contains-append_cases (end_cells schema.model assoc.first.ty fragment.first link.first) (end_cells schema.model assoc.second.ty fragment.second link.second) one has))
          (subst (λ (w : Writing). Fills w col value) same demanded.2))

      by : Writes schema state demanded.0 → ⊥
      by (inl written) = by_entity written.0 written.1 written.2.mapped written.3
      by (inr written) = by_link written.0 written.1 written.2 written.3.mapped written.4

  module _ (tables : Tables) (are : TablesAre schema state tables) where
    -- they have one row for each key
    pub rows_apart : HaveRowsApart schema.store tables
    rows_apart t = by (cases_lt t.index (length schema.store.tables))
      where
        by : (t.index < length schema.store.tables) ⊎ (length schema.store.tables ≤ t.index) → AreToldApartBy (key_columns schema.store t) (rows_in tables t)
        by (inl within) =
            let table = item_at schema.store.tables t.index within in
            subst (λ cols. AreToldApartBy cols (rows_in tables t)) (sym (key_columns_at schema.store t table.0 table.1)) (are.rows t table.0 table.1).once
        by (inr beyond) =
            subst (AreToldApartBy (key_columns schema.store t)) (sym (rows_beyond tables t (omega (arith, beyond, are.shape.each)))) (λ i j d below within. absurd (omega arith))

    -- and null in their free cells
    pub null_free_cells : (is_free : TableId → ColId → Bool) → ((t : TableId) (col : ColId) → IsTrue (is_free t col) → IsFree schema t col) → HaveNullFreeCells is_free tables
    null_free_cells is_free tells t col free =
        let is = tells t col free in
        let rows = are.rows t is.stands.0 is.stands.2 in
        all_from_members (λ (row : Row). cell_of row col ≡ Null) (rows_in tables t)
        (λ row has. ⊎_elim
        (λ (null : cell_of row col ≡ Null). null)
        (λ demanded. absurd (free_not_demanded t col is _ (cell_of row col) demanded))
        ((All-contains (HasDemandedCells schema state t is.stands.0) (rows_in tables t) row rows.cells has).only col is.stands.1 is.stands.3))
