-- Where a pattern lists two symbols in a cell that can differ, a legal state clashes.
use Rattle.std.proofs.Common.{◌≢◌, List, IsTrue, refl, sym}
use Rattle.round_trip.specs.Words.{SetId, TableId, ColId, Value, Column, DemandsCell, Entity, FailsAt, Pair, State, Table, place_at}
use Rattle.round_trip.specs.FailsAt.{Clashes, HasColumn}
use Rattle.round_trip.specs.declared.FailKind.TheVariants as kind
use Rattle.schema_laws.specs.state_demand.Owners.{IsOwned, StandsAt, paired_key}
use Rattle.regions.specs.declared.pattern.Symbol.{Symbol}
use Rattle.regions.specs.declared.pattern.Focus.{Focus}
use Rattle.regions.specs.declared.pattern.Focus.TheVariants as focus
use Rattle.regions.specs.Basis.{Basis}
use Rattle.regions.specs.Patterns.{Valuation, pattern_of, value_under, writings_of}
use Rattle.regions.specs.region_laws.pattern.Listed.{Lists}
use Rattle.regions.specs.region_laws.Held.{IsHeldAt, LinkedEntity}
use Rattle.regions.proofs.region_laws.pattern.Cells.{cell_of}
use Rattle.regions.proofs.region_laws.pattern.Keys.{owned_here}
use Rattle.regions.specs.region_laws.pattern.Allowed.{RegionValues}
use Rattle.region_states.proofs.focus.Demanded.{cells}
use Rattle.region_states.specs.defaults.Admissible.{IsAdmissible}
use Rattle.region_states.specs.conflicts.Conflicts.{IsConflictAt, IsRegionOf}
use Rattle.region_states.specs.conflicts.Facts.{is_clash}
use Rattle.region_states.specs.conflicts.There.{FailsThere}
use Rattle.region_states.specs.declared.conflicts.conflict.Conflict.{Conflict}
use Rattle.region_states.specs.declared.conflicts.conflict.Conflict.TheVariants as conflict
use Rattle.region_states.specs.Entities.{focus_entity}
use Rattle.region_states.specs.HoldsFocus.{HoldsFocus}
use Rattle.region_states.proofs.Entities.{symbol_value}
use Rattle.region_states.proofs.Held.{few_links, focus_held}
use Rattle.conflict_laws.specs.clash.ClashValues.{clash_values}
use Rattle.conflict_laws.proofs.clash.Clashing.{Decides-clash, IsClash}
use Rattle.conflict_laws.proofs.clash.Values.{values_differ}
use Rattle.conflict_laws.specs.States.{FocusStates}
use Rattle.conflict_laws.specs.Told.{ClashingCell, OwnedColumn}

module _ (basis : Basis) (given : FocusStates basis) where
  module _ (at : ClashingCell basis) where
    abbrev values : Valuation
    values = clash_values basis at.region at.one at.two

    abbrev shown : State
    shown = given.state at.region values

    abbrev entity : Entity
    entity = focus_entity basis at.region values

    abbrev at_values : RegionValues basis
    at_values = record { s = at.s; region = at.region; listed = at.listed; values = values }

    clash : IsClash basis (focus.Entity at.region) at.t at.col at.one at.two
    clash = (Decides-clash basis (focus.Entity at.region) at.t at.col at.one at.two).0 at.clash

    -- the chosen values make the symbols differ
    chosen : IsAdmissible basis 0 at.region values × (value_under values at.one ≢ value_under values at.two)
    chosen = values_differ basis given.is_basis given.limits at

    -- so the state holds an entity of them, and the region holds this with its partners
    holds : HoldsFocus basis at.region values shown
    holds = given.hosts.holds at_values chosen.0

    held : IsHeldAt basis shown at.s entity at.region values.part
    held = focus_held basis given.is_basis at_values chosen.0.allowed shown holds

    module _ (pairing : List Pair) (owned : IsOwned basis.schema at.t at.s pairing) where
      abbrev key : List Value
      key = paired_key basis.schema.model pairing entity

      -- it stands at its row
      stands_at : StandsAt basis.schema shown at.s pairing key entity
      stands_at = record { stands = held.stands; at_key = refl }

      -- the cell of the entity's row is to hold the value of each symbol that is listed
      demanded : (symbol : Symbol) → Lists (pattern_of basis (focus.Entity at.region)) at.t at.col symbol → DemandsCell basis.schema shown at.t key at.col (value_under values symbol)
      demanded symbol lists =
          let linked : LinkedEntity basis = record {
            state = shown;
            legal = holds.legal;
            s = at.s;
            entity = entity;
            region = at.region;
            part = values.part;
            held = held;
          } in
          let by = cells basis given.is_basis linked at.t key (record { pairing = pairing; owned = owned; at = stands_at }) at.col (value_under values symbol) in
          by.1 (symbol, lists, sym (symbol_value basis given.is_basis at_values at.t at.col symbol lists))

      -- and these are two
      abbrev clashes_at : (table : Table) (column : Column) → HasColumn basis.schema at.t table at.col column → Clashes basis.schema shown (place_at table.name key column.name)
      clashes_at table column there = record {
        t = at.t;
        table = table;
        col = at.col;
        column = column;
        key = key;
        one = value_under values at.one;
        two = value_under values at.two;
        has_column = there;
        demands_one = demanded at.one clash.lists_one;
        demands_two = demanded at.two clash.lists_two;
        different = chosen.1;
        place_is = refl;
      }

    pub fails_at : (place : OwnedColumn basis.schema at.s at.t at.col) (d : State) → FailsAt basis.schema kind.Clash
        (place_at place.table.name (paired_key basis.schema.model place.pairing (focus_entity basis at.region (clash_values basis at.region at.one at.two))) place.column.name)
        (given.state at.region (clash_values basis at.region at.one at.two)) d
    fails_at place d = record { legal = holds.legal; fails = clashes_at place.pairing place.owned place.table place.column place.has_column }

    -- the table has the column, and is the set's
    fails_here : FailsThere basis at.s kind.Clash
    fails_here =
        let owned = owned_here basis given.is_basis at.s at.region at.listed
        (record { t = at.t; col = at.col; cell = clash.lists_one.0; has = clash.lists_one.1 }) in
        let cell = cell_of basis.schema.store (writings_of basis (focus.Entity at.region)) at.t at.col clash.lists_one.0 clash.lists_one.1 in
        let there : HasColumn basis.schema at.t cell.table at.col cell.column = record { is_table = cell.is_table; is_column = cell.is_column } in
        record {
          place = place_at cell.table.name (key owned.0 owned.1) cell.column.name;
          c = shown;
          d = shown;
          legal = holds.legal;
          fails = (
            clashes_at owned.0 owned.1 cell.table cell.column there,
            record {
              pairing = owned.0;
              owned = owned.1;
              entity = entity;
              at = stands_at owned.0 owned.1;
              few = few_links basis given.is_basis at_values shown holds;
            },
          );
        }

  -- a conflict tells of regions of the set alone
  by_focus : (s : SetId) (of : Focus) (t : TableId) (c : ColId) (one two : Symbol) → IsRegionOf basis s of → IsTrue (is_clash basis of t c one two)
      → FailsThere basis s kind.Clash
  by_focus s (focus.Entity region) t c one two has told =
      fails_here (record { s = s; region = region; listed = has; t = t; col = c; one = one; two = two; clash = told })
  by_focus s (focus.Link a) t c one two none told = absurd none

  -- a conflict of this kind at the set is one of the set's failures
  pub fails_there : (s : SetId) (it : Conflict) → IsConflictAt basis s kind.Clash it → FailsThere basis s kind.Clash
  fails_there s (conflict.Clash of t c one two) told = by_focus s of t c one two told.of_set told.holds
  fails_there s (conflict.NullIn of t c one) told = absurd (let never = told.of_kind in cc)
  fails_there s (conflict.Disagree of place) told = absurd (let never = told.of_kind in cc)
  fails_there s (conflict.Absent region) told = absurd (let never = told.of_kind in cc)
  fails_there s (conflict.Rival one two) told = absurd (let never = told.of_kind in cc)
  fails_there s (conflict.Lost region p) told = absurd (let never = told.of_kind in cc)
  fails_there s (conflict.ManyLinks a) told = absurd told.of_set
  fails_there s (conflict.Unmapped a) told = absurd told.of_set
