-- A symbol that can be null, or none, in a column that isn't nullable: the state with the usual entity of the region fails there.
use Rattle.std.proofs.Common.{◌≡◌, List, Contains, false, IsTrue, refl, subst, ◌∙◌, arith}
use Rattle.std.proofs.lemmas.Bool.{and_parts}
use Rattle.std.proofs.lemmas.List.Elements.{All-contains}
use Rattle.emc_base.proofs.Mapped.{contains_at}
use Rattle.round_trip.specs.Words.{ColId, Column, DemandsCell, Entity, FailsAt, Null, Pair, SetId, State, Table, TableId, Value, place_at}
use Rattle.round_trip.specs.FailsAt.{HasColumn, LeavesNull}
use Rattle.round_trip.specs.declared.FailKind.TheVariants as kind
use Rattle.schema_laws.specs.state_demand.Owners.{IsOwned, paired_key}
use Rattle.regions.specs.declared.region.Region.{Region}
use Rattle.regions.specs.declared.pattern.Focus.TheVariants as focus
use Rattle.regions.specs.declared.pattern.Pattern.{Pattern}
use Rattle.regions.specs.declared.pattern.Symbol.{Symbol}
use Rattle.regions.specs.Basis.{Basis}
use Rattle.regions.specs.Patterns.{Valuation, by_entity, pattern_of, value_under}
use Rattle.regions.specs.Regions.{regions_of}
use Rattle.regions.specs.Settled.{has_clash, possible}
use Rattle.regions.specs.region_laws.pattern.Listed.{HasCell}
use Rattle.regions.specs.region_laws.Held.{IsAtRow, IsHeldAt, LinkedEntity}
use Rattle.regions.proofs.region_laws.pattern.Laws.{cell_one}
use Rattle.regions.specs.region_laws.pattern.Allowed.{RegionValues}
use Rattle.region_states.specs.defaults.Admissible.{IsAdmissible}
use Rattle.region_states.specs.defaults.Defaults.{default_valuation}
use Rattle.region_states.proofs.defaults.Defaults.{default_admissible}
use Rattle.region_states.specs.focus.Held.{HasRow, ListsValue}
use Rattle.region_states.proofs.focus.Demanded.{cells, rows}
use Rattle.region_states.proofs.focus.Listed.{row_owned}
use Rattle.region_states.specs.conflicts.Conflicts.{IsConflictAt}
use Rattle.region_states.specs.conflicts.Facts.{can_be_null, has_row, is_null_in, is_required, listed_in, stands_for_null}
use Rattle.region_states.specs.conflicts.There.{FailsThere}
use Rattle.region_states.specs.declared.conflicts.conflict.Conflict.{Conflict}
use Rattle.region_states.specs.declared.conflicts.conflict.Conflict.TheVariants as conflict
use Rattle.region_states.specs.Entities.{focus_entity}
use Rattle.region_states.specs.HoldsFocus.{HoldsFocus}
use Rattle.region_states.proofs.Entities.{symbol_value}
use Rattle.region_states.proofs.Held.{few_links, focus_held}
use Rattle.conflict_laws.proofs.clash.Clear.{region_clear}
use Rattle.conflict_laws.proofs.clash.Listed.{cell_is}
use Rattle.conflict_laws.proofs.null.Listed.{Decides-row}
use Rattle.conflict_laws.proofs.null.Nulls.{default_null, stands_listed}
use Rattle.conflict_laws.proofs.null.Required.{required_there, told_needed}
use Rattle.conflict_laws.specs.States.{ClearStates}
use Rattle.conflict_laws.specs.Told.{NullCell, OwnedColumn}

module _ (basis : Basis) (states : ClearStates basis) where
  module _ (s : SetId) (region : Region) (has : Contains (regions_of basis s) region) where
    abbrev values : Valuation
    values = default_valuation basis 0 region

    abbrev usual : State
    usual = states.given.state region values

    abbrev entity : Entity
    entity = focus_entity basis region values

    abbrev pattern : Pattern
    pattern = pattern_of basis (focus.Entity region)

    abbrev key_by : List Pair → List Value
    key_by pairing = paired_key basis.schema.model pairing entity

    admissible : IsAdmissible basis 0 region values
    admissible = default_admissible basis states.given.is_basis states.given.limits s region has 0 (omega arith)

    abbrev at_values : RegionValues basis
    at_values = record { s = s; region = region; listed = has; values = values }

    in_state : HoldsFocus basis region values usual
    in_state = states.given.hosts.holds at_values admissible

    entity_held : IsHeldAt basis usual s entity region values.part
    entity_held = focus_held basis states.given.is_basis at_values admissible.allowed usual in_state

    abbrev linked : LinkedEntity basis
    linked = record { state = usual; legal = in_state.legal; s = s; entity = entity; region = region; part = values.part; held = entity_held }

    at_row : (t : TableId) (pairing : List Pair) → IsOwned basis.schema t s pairing → IsAtRow basis usual s entity t (key_by pairing)
    at_row t pairing owned = record { pairing = pairing; owned = owned; at = record { stands = entity_held.stands; at_key = refl } }

    -- the symbols of a cell that lists one which can be null are null
    cell_null : (t : TableId) (c : ColId) (cell : List Symbol) → HasCell pattern t c cell → (one other : Symbol) → Contains cell one
        → IsTrue (can_be_null (possible basis.schema.model region.atoms one)) → Contains cell other → value_under values other ≡ Null
    cell_null t c cell here one other lists_one null lists_other =
        let Clear : List Symbol → Type 0 = λ list. has_clash basis.schema.model region.atoms list ≡ false in
        let no_clash : Clear cell = All-contains Clear here.row.cells cell
        (region_clear basis states s region has here.row here.is_row) (contains_at here.row.cells c.index cell here.is_cell) in
        cell_one basis states.given.is_basis (record { of = focus.Entity region; is_focus = (s, has); values = values; allowed = admissible.allowed })
        (record { t = t; col = c; cell = cell; has = here }) no_clash other one lists_other lists_one
        ∙ default_null basis states.given.is_basis states.given.limits s region has t c one (cell, here, lists_one) null

    module _ (t : TableId) (c : ColId) (one : Symbol) (told : IsTrue (is_null_in basis (focus.Entity region) t c one)) where
      parts : IsTrue (has_row pattern t) × IsTrue (is_required basis.schema.store t c)
          × IsTrue (stands_for_null basis (focus.Entity region) (listed_in pattern t c) one)
      parts = let last = and_parts _ _ told in let first = and_parts _ _ last.0 in (first.0, first.1, last.1)

      row_there : HasRow pattern t
      row_there = (Decides-row pattern t).0 parts.0

      -- each value that is demanded of the cell is null
      demanded_null : (pairing : List Pair) → IsOwned basis.schema t s pairing → (value : Value)
          → DemandsCell basis.schema usual t (key_by pairing) c value → value ≡ Null
      demanded_null pairing owned value demanded =
          by ((cells basis states.given.is_basis linked t (key_by pairing) (at_row t pairing owned) c value).0 demanded)
        where
          by : ListsValue pattern (by_entity basis.schema.model entity values.part) t c value → value ≡ Null
          by (other, (cell, here, listed), is_value) =
              let Stands : List Symbol → Type 0 = λ list. IsTrue (stands_for_null basis (focus.Entity region) list one) in
              let stands = stands_listed basis (focus.Entity region) cell one other listed (subst Stands (cell_is basis (focus.Entity region) t c cell here) parts.2) in
              is_value ∙ symbol_value basis states.given.is_basis at_values t c other (cell, here, listed) ∙ cell_null t c cell here one other stands.0 stands.1 listed

      module _ (table : Table) (column : Column) (has_column : HasColumn basis.schema t table c column) (pairing : List Pair) (owned : IsOwned basis.schema t s pairing) where
        abbrev leaves : LeavesNull basis.schema usual (place_at table.name (key_by pairing) column.name)
        leaves = record {
          t = t;
          table = table;
          col = c;
          column = column;
          key = key_by pairing;
          has_column = has_column;
          not_nullable = told_needed basis.schema t c table column has_column parts.1;
          demands_row = (rows basis states.given.is_basis linked t (key_by pairing) (at_row t pairing owned)).1 row_there;
          no_value = demanded_null pairing owned;
          place_is = refl;
        }

        -- so the state leaves null there
        fails_in : (d : State) → FailsAt basis.schema kind.Null (place_at table.name (key_by pairing) column.name) usual d
        fails_in d = record { legal = in_state.legal; fails = leaves }

      -- the column is one of a table that the set owns, so the failure is there
      fails_here : FailsThere basis s kind.Null
      fails_here =
          let column = required_there basis.schema t c parts.1 in
          let owned = row_owned basis states.given.is_basis s region has row_there.0 row_there.1 in
          let Owned : TableId → Type 0 = λ u. IsOwned basis.schema u s owned.1 in
          let at : IsOwned basis.schema t s owned.1 = subst Owned row_there.2 owned.3 in
          record {
            place = place_at column.table.name (key_by owned.1) column.column.name;
            c = usual;
            d = usual;
            legal = in_state.legal;
            fails = (
              leaves column.table column.column column.here owned.1 at,
              record {
                pairing = owned.1;
                owned = at;
                entity = entity;
                at = record { stands = entity_held.stands; at_key = refl };
                few = few_links basis states.given.is_basis at_values usual in_state;
              },
            );
          }

  pub null_fails : (at : NullCell basis) (place : OwnedColumn basis.schema at.s at.t at.col) (d : State) → FailsAt basis.schema kind.Null
      (place_at place.table.name (paired_key basis.schema.model place.pairing (focus_entity basis at.region (default_valuation basis 0 at.region))) place.column.name)
      (states.given.state at.region (default_valuation basis 0 at.region)) d
  null_fails at place d =
      fails_in at.s at.region at.listed at.t at.col at.one at.null place.table place.column place.has_column place.pairing place.owned d

  -- a conflict of this kind is a failure
  pub null_there : (s : SetId) (found : Conflict) → IsConflictAt basis s kind.Null found → FailsThere basis s kind.Null
  null_there s (conflict.NullIn (focus.Entity region) t c one) is_conflict = fails_here s region is_conflict.of_set t c one is_conflict.holds
  null_there s (conflict.NullIn (focus.Link a) t c one) is_conflict = absurd is_conflict.of_set
  null_there s (conflict.Clash of t c one two) is_conflict = absurd (let never : kind.Clash ≡ kind.Null = is_conflict.of_kind in cc)
  null_there s (conflict.Disagree of place) is_conflict = absurd (let never : kind.Disagrees ≡ kind.Null = is_conflict.of_kind in cc)
  null_there s (conflict.Absent region) is_conflict = absurd (let never : kind.Same ≡ kind.Null = is_conflict.of_kind in cc)
  null_there s (conflict.Rival one two) is_conflict = absurd (let never : kind.Same ≡ kind.Null = is_conflict.of_kind in cc)
  null_there s (conflict.Lost region p) is_conflict = absurd (let never : kind.Same ≡ kind.Null = is_conflict.of_kind in cc)
  null_there s (conflict.ManyLinks a) is_conflict = absurd is_conflict.of_set
  null_there s (conflict.Unmapped a) is_conflict = absurd is_conflict.of_set
