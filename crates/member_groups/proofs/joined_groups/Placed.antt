-- Just what is no part of a key has a place, once those of all properties and all columns were given.
use Rattle.std.proofs.Common.{◌≡◌, inl, inr, ℕ, ◌+◌, ◌<◌, List, [], length, Option, Some, Contains, IsSome, sym, ap, subst, ◌∙◌, arith}
use Rattle.std.specs.Option.{option_map_or}
use Rattle.std.specs.Prelude.{unwrap_or}
use Rattle.std.proofs.lemmas.Option.{slice_get_cases, slice_get_within}
use Rattle.round_trip.specs.Words.{ColId, Column, EntityModel, Mapping, Prop, PropId, Schema, StoreModel, Table, TableId, At, key_columns, key_props}
use Rattle.emc_base.proofs.Lists.{at_once, item_at}
use Rattle.round_trip.specs.soundness.Lookups.{columns_of}
use Rattle.round_trip.specs.soundness.mappings.Joined.{IsNoKey, Member, col, prop}
use Rattle.member_groups.specs.declared.joined_groups.places.Places.{Places}
use Rattle.member_groups.specs.joined_groups.Places.{ArePlaces, ArePlacesUpTo, IsColumnOfKey, IsPropOfKey, held_at, place_in, place_of, start_of}
use Rattle.member_groups.proofs.joined_groups.Placing.{held_only, held_some}

-- the table of a column
pub table_of : (store : StoreModel) (t : TableId) (i : ℕ) (column : Column) → At (columns_of store t) i column → (table : Table) × At store.tables t.index table × At table.cols i column
table_of store t i column at = elim (slice_get_cases store.tables t.index).1 [
  | inl found ↦
      let P : Option Table → Type 0 = λ o. At (option_map_or (λ (entry : Table). entry.cols) o []) i column in
      (found.0, found.2, subst P found.2 at)
  | inr past ↦
      let P : Option Table → Type 0 = λ o. At (option_map_or (λ (entry : Table). entry.cols) o []) i column in
      let impossible : At [] i column = subst P past.1 at in
      absurd cc
]

module _ (model : EntityModel) (store : StoreModel) (mapping : Mapping) where
  abbrev schema : Schema
  schema = record { model = model; store = store; mapping = mapping }

  -- the key of a table that stands there
  key_is : (t : TableId) (table : Table) → At store.tables t.index table → key_columns store t ≡ table.key
  key_is t table at = ap (λ (o : Option Table). option_map_or (λ (entry : Table). entry.key) o []) at

  columns_are : (t : TableId) (table : Table) → At store.tables t.index table → columns_of store t ≡ table.cols
  columns_are t table at = ap (λ (o : Option Table). option_map_or (λ (entry : Table). entry.cols) o []) at

  module _ (places : Places) (placed : ArePlacesUpTo model store (length store.tables) places) where
    some_prop : (p : PropId) → IsNoKey schema (prop p) → place_of places (prop p) ≡ Some p.index
    some_prop p (declared, at, free) =
        held_some (IsPropOfKey model) 0 (length model.props) places.props placed.props p.index (slice_get_within model.props p.index declared at)
        (λ key. free (let P : Prop → Type 0 = λ each. Contains (key_props model each.owner) p in
        subst P (at_once model.props p.index key.0 declared key.1 at) key.2))
        ∙ ap Some (let is : 0 + p.index ≡ p.index = omega arith in is)

    some_col : (t : TableId) (c : ColId) → IsNoKey schema (col t c) → place_of places (col t c) ≡ Some (start_of model store.tables t.index + c.index)
    some_col t c (column, at, free) =
        let table = table_of store t c.index column at in
        let held = placed.columns t.index table.0 (slice_get_within store.tables t.index table.0 table.1) table.1 in
        let P : List ColId → Type 0 = λ key. ¬ Contains key c in
        ap (λ (o : Option (List (Option ℕ))). held_at (unwrap_or o []) c.index) held.1
        ∙ held_some (IsColumnOfKey table.0) (start_of model store.tables t.index) (length table.0.cols) held.0 held.2 c.index
        (slice_get_within table.0.cols c.index column table.2) (subst P (key_is t table.0 table.1) free)

    only_prop : (p : PropId) → IsSome (place_of places (prop p)) → IsNoKey schema (prop p)
    only_prop p some =
        let held = held_only (IsPropOfKey model) 0 (length model.props) places.props placed.props p.index some in
        let declared = item_at model.props p.index held.0 in
        (declared.0, declared.1, λ key. held.1 (declared.0, declared.1, key))

    only_col : (t : TableId) (c : ColId) → IsSome (place_of places (col t c)) → IsNoKey schema (col t c)
    only_col t c some = elim (slice_get_cases places.tables t.index).1 [
      | inl found ↦
          let size : length places.tables ≡ length store.tables = placed.size in
          let within : t.index < length places.tables = found.1 in
          let table = item_at store.tables t.index (omega (arith, size, within)) in
          let numbered = placed.columns t.index table.0 (omega (arith, size, within)) table.1 in
          let P : Option (List (Option ℕ)) → Type 0 = λ o. IsSome (held_at (unwrap_or o []) c.index) in
          let held = held_only (IsColumnOfKey table.0) (start_of model store.tables t.index) (length table.0.cols) numbered.0 numbered.2 c.index (subst P numbered.1 some) in
          let column = item_at table.0.cols c.index held.0 in
          let Q : List Column → Type 0 = λ columns. At columns c.index column.0 in
          let R : List ColId → Type 0 = λ key. ¬ Contains key c in
          (column.0, subst Q (sym (columns_are t table.0 table.1)) column.1, subst R (sym (key_is t table.0 table.1)) held.1)
      | inr past ↦
          let P : Option (List (Option ℕ)) → Type 0 = λ o. IsSome (held_at (unwrap_or o []) c.index) in
          let impossible : IsSome (held_at [] c.index) = subst P past.1 some in
          absurd cc
    ]

    pub all_placed : ArePlaces schema places
    all_placed = record {
      count = placed.count;
      some = some_member;
      only = only_member;
    }
      where
        some_member : (member : Member) → IsNoKey schema member → place_of places member ≡ Some (place_in schema member)
        some_member (prop p) free = some_prop p free
        some_member (col t c) free = some_col t c free

        only_member : (member : Member) → IsSome (place_of places member) → IsNoKey schema member
        only_member (prop p) some = only_prop p some
        only_member (col t c) some = only_col t c some
