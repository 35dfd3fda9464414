-- A sound schema's fragments fit their tables, and its ids are in range.
use Rattle.std.proofs.Common.{◌≡◌, ⊎_elim, ◌<◌, List, [], ◌++◌, length, All, Any, Contains, sym, ap, subst}
use Rattle.std.specs.Option.{option_map_or}
use Rattle.std.proofs.lemmas.List.{map-append}
use Rattle.std.proofs.lemmas.List.Elements.{All-contains, Contains-append_left, Contains-append_right}
use Rattle.emc_base.proofs.Lists.{all_from_members, item_at}
use Rattle.emc_base.proofs.Mapped.{contains_map}
use Rattle.emc_base.proofs.Numbered.{map_contains}
use Rattle.round_trip.specs.Words.{TableId, ColId, Assoc, Column, Table, StoreModel, Fragment, LinkFragment, Pair, Cond, Schema, At, key_columns}
use Rattle.round_trip.specs.FailsAt.{IsHostedAt}
use Rattle.round_trip.specs.soundness.Lookups.{columns_of, set_key}
use Rattle.round_trip.specs.soundness.mappings.Mappings.{HasLinkFragmentIds, HasPairIds, IsCondId, IsSoundFragment, IsSoundLinkFragment, IsSoundSchema}
use Rattle.round_trip.specs.soundness.mappings.Owners.{IsJoined, IsPlaced}
use Rattle.round_trip.specs.soundness.Stores.{IsColId}
use Rattle.round_trip.proofs.Lookups.{assoc_of, key_columns_at}
use Rattle.schema_laws.specs.state_demand.WellWritten.{FitsTable, HasAssocs, HasCol, HasTables, IsOnColumn, IsWellWritten, cols_of}
use Rattle.schema_laws.proofs.state_demand.lists.Lists.{of_any}

-- the columns of a table
pub columns_are : (store : StoreModel) (t : TableId) (table : Table) → At store.tables t.index table → columns_of store t ≡ table.cols
columns_are store t table here = ap (λ found. option_map_or (λ (entry : Table). entry.cols) found []) here

module _ (schema : Schema) (sound : IsSoundSchema schema) where
  pub sound_fragment : (fragment : Fragment) → Contains schema.mapping.fragments fragment → IsSoundFragment schema fragment
  sound_fragment fragment mapped = All-contains (IsSoundFragment schema) schema.mapping.fragments fragment sound.mapping.fragments mapped

  pub link_ids : (fragment : LinkFragment) → Contains schema.mapping.links fragment → HasLinkFragmentIds schema fragment
  link_ids fragment mapped = All-contains (HasLinkFragmentIds schema) schema.mapping.links fragment sound.mapping.link_ids mapped

  pub sound_link : (fragment : LinkFragment) → Contains schema.mapping.links fragment → (assoc : Assoc) → At schema.model.assocs fragment.assoc.index assoc
      → IsSoundLinkFragment schema fragment assoc
  sound_link fragment mapped assoc here =
      let Sound : LinkFragment → Type 0 = λ f. (one : Assoc) → At schema.model.assocs f.assoc.index one → IsSoundLinkFragment schema f one in
      All-contains Sound schema.mapping.links fragment sound.mapping.links mapped assoc here

  pub has_tables : HasTables schema
  has_tables = record {
    fragments = all_from_members (λ (fragment : Fragment). (table : Table) × At schema.store.tables fragment.table.index table) schema.mapping.fragments
        (λ fragment mapped. item_at schema.store.tables fragment.table.index (sound_fragment fragment mapped).ids.table);
    links = all_from_members (λ (fragment : LinkFragment). (table : Table) × At schema.store.tables fragment.table.index table) schema.mapping.links
        (λ fragment mapped. item_at schema.store.tables fragment.table.index (link_ids fragment mapped).table);
  }

  pub has_assocs : HasAssocs schema
  has_assocs = all_from_members (λ (fragment : LinkFragment). (assoc : Assoc) × At schema.model.assocs fragment.assoc.index assoc) schema.mapping.links (assoc_of schema sound)

  module _ (t : TableId) (table : Table) (here : At schema.store.tables t.index table) where
    col_here : (col : ColId) → IsColId schema.store t col → HasCol table col
    col_here col inside = item_at table.cols col.index (subst (λ (cols : List Column). col.index < length cols) (columns_are schema.store t table here) inside)

    cols_here : (pairs : List Pair) → All (HasPairIds schema t) pairs → All (HasCol table) (cols_of pairs)
    cols_here pairs ids = all_from_members (HasCol table) (cols_of pairs) (λ col has.
        let found = map_contains (λ (pair : Pair). pair.col) pairs col has in
        subst (HasCol table) found.2 (col_here found.0.col (All-contains (HasPairIds schema t) pairs found.0 ids found.1).1))

    conds_here : (conds : List Cond) → All (λ cond. IsCondId schema t cond.on) conds → All (λ cond. IsOnColumn table cond.on) conds
    conds_here conds ids = all_from_members (λ (cond : Cond). IsOnColumn table cond.on) conds (λ cond has col is.
        let inside : IsCondId schema t cond.on = All-contains (λ (one : Cond). IsCondId schema t one.on) conds cond ids has in
        col_here col (subst (IsCondId schema t) is inside))

    key_here : (cols : List ColId) → All (Contains cols) (key_columns schema.store t) → All (Contains cols) table.key
    key_here cols all = subst (All (Contains cols)) (key_columns_at schema.store t table here) all

  fragment_fits : (fragment : Fragment) → Contains schema.mapping.fragments fragment → (table : Table) → At schema.store.tables fragment.table.index table
      → FitsTable table (cols_of fragment.pairs) fragment.conds
  fragment_fits fragment mapped table here =
      let is = sound_fragment fragment mapped in
      let keys : List ColId = key_columns schema.store fragment.table in
      record {
        writes_key = key_here fragment.table table here (cols_of fragment.pairs) (all_from_members (Contains (cols_of fragment.pairs)) keys (λ col has.
            let Written : ColId → Type 0 = λ one. Any (λ (pair : Pair). (pair.col ≡ one) × Contains (set_key schema.model fragment.set) pair.prop) fragment.pairs in
            let Here : Pair → Type 0 = λ pair. (pair.col ≡ col) × Contains (set_key schema.model fragment.set) pair.prop in
            let found = of_any Here fragment.pairs (All-contains Written keys col is.key.cols has) in
            subst (Contains (cols_of fragment.pairs)) found.2.0 (contains_map (λ (pair : Pair). pair.col) fragment.pairs found.0 found.1)));
        has_cols = cols_here fragment.table table here fragment.pairs is.ids.pairs;
        has_conds = conds_here fragment.table table here fragment.conds is.ids.conds;
      }

  -- wherever a link fragment is placed, the primary key is written
  placed_key : (fragment : LinkFragment) (assoc : Assoc) → IsPlaced schema fragment assoc
      → All (Contains (cols_of (fragment.first ++ fragment.second))) (key_columns schema.store fragment.table)
  placed_key fragment assoc placed =
      let keys : List ColId = key_columns schema.store fragment.table in
      let both : List ColId = cols_of (fragment.first ++ fragment.second) in
      let split : both ≡ cols_of fragment.first ++ cols_of fragment.second = map-append (λ (pair : Pair). pair.col) fragment.first fragment.second in
      ⊎_elim
      (λ (first : IsHostedAt schema fragment.table fragment.first). all_from_members (Contains both) keys (λ col has.
      subst (λ cols. Contains cols col) (sym split)
      (Contains-append_left (cols_of fragment.first) (cols_of fragment.second) col (All-contains (Contains (cols_of fragment.first)) keys col first.whole has))))
      (λ rest. ⊎_elim
      (λ (second : IsHostedAt schema fragment.table fragment.second). all_from_members (Contains both) keys (λ col has.
      subst (λ cols. Contains cols col) (sym split)
      (Contains-append_right (cols_of fragment.first) (cols_of fragment.second) col (All-contains (Contains (cols_of fragment.second)) keys col second.whole has))))
      (λ (joined : IsJoined schema fragment assoc). joined.columns.whole)
      rest)
      placed

  link_fits : (fragment : LinkFragment) → Contains schema.mapping.links fragment → (table : Table) → At schema.store.tables fragment.table.index table
      → FitsTable table (cols_of (fragment.first ++ fragment.second)) fragment.conds
  link_fits fragment mapped table here =
      let ids = link_ids fragment mapped in
      let assoc = assoc_of schema sound fragment mapped in
      let is = sound_link fragment mapped assoc.0 assoc.1 in
      record {
        writes_key = key_here fragment.table table here (cols_of (fragment.first ++ fragment.second)) (placed_key fragment assoc.0 is.placed);
        has_cols = cols_here fragment.table table here (fragment.first ++ fragment.second) ids.pairs;
        has_conds = conds_here fragment.table table here fragment.conds ids.conds;
      }

  pub well_written : IsWellWritten schema
  well_written = record {
    fragments = all_from_members
        (λ (fragment : Fragment). (table : Table) → At schema.store.tables fragment.table.index table
        → FitsTable table (cols_of fragment.pairs) fragment.conds) schema.mapping.fragments fragment_fits;
    links = all_from_members
        (λ (fragment : LinkFragment). (table : Table) → At schema.store.tables fragment.table.index table
        → FitsTable table (cols_of (fragment.first ++ fragment.second)) fragment.conds) schema.mapping.links link_fits;
  }
