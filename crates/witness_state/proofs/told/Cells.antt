-- Clashes and nulls of regions: the cell is there, and what is shown of it.
use Rattle.std.proofs.Common.{◌≡◌, List, Contains, None, IsTrue, refl, subst, arith}
use Rattle.round_trip.specs.Words.{ColId, Column, Entity, Pair, Place, SetId, State, Table, TableId}
use Rattle.round_trip.specs.FailsAt.{HasColumn}
use Rattle.round_trip.specs.declared.FailKind.TheVariants as kind
use Rattle.round_trip.specs.soundness.mappings.Owners.{Owns}
use Rattle.cells.specs.Parts.{schema_in}
use Rattle.cells.specs.declared.parts.Parts.{Parts}
use Rattle.regions.specs.Basis.{Basis}
use Rattle.regions.specs.Patterns.{Valuation, writings_of}
use Rattle.regions.specs.Regions.{regions_of}
use Rattle.regions.specs.declared.pattern.Focus.TheVariants as focus
use Rattle.regions.specs.declared.pattern.Symbol.{Symbol}
use Rattle.regions.specs.declared.region.Region.{Region}
use Rattle.regions.proofs.region_laws.pattern.Cells.{cell_of}
use Rattle.region_states.specs.conflicts.Facts.{is_clash}
use Rattle.region_states.specs.declared.conflicts.conflict.Conflict.TheVariants as conflict
use Rattle.region_states.specs.defaults.Defaults.{default_valuation}
use Rattle.region_states.specs.Entities.{focus_entity}
use Rattle.region_states.specs.region_basis.BasisOf.{basis_of}
use Rattle.region_states.proofs.region_basis.Bases.{basis_is}
use Rattle.host_states.specs.SmallStates.{small_focus}
use Rattle.conflict_laws.specs.clash.ClashValues.{clash_values}
use Rattle.failure_laws.specs.Places.{IsEntityCell}
use Rattle.failure_laws.proofs.witness.Computed.{fact_computed}
use Rattle.witness_state.specs.CellPlaces.{IsCellPlace}
use Rattle.witness_state.specs.FirstConflict.{IsFirstConflict}
use Rattle.witness_state.specs.Shown.{IsShownOf, shown_alone}
use Rattle.witness_state.specs.Small.{HasValues}
use Rattle.witness_state.proofs.Pairing.{IsOwnedBy}
use Rattle.witness_state.proofs.Written.{row_owned}
use Rattle.witness_state.proofs.told.Listed.{region_listed}
use Rattle.witness_state.proofs.told.Values.{clash_has, usual_has}

-- a place in the row of an entity, where the set owns the table
abbrev pub IsCellOf : Parts → Region → TableId → ColId → Entity → Place → Type 0
IsCellOf parts region t col entity place = (s : SetId) (pairs : List Pair) → Owns (schema_in parts) t s pairs → IsCellPlace (schema_in parts) s t col entity place

module _ (parts : Parts) (region : Region) (t : TableId) (col : ColId) where
  abbrev basis : Basis
  basis = basis_of parts

  cell_there : IsOwnedBy (schema_in parts) t region.set → (values : Valuation) (entity : Entity) → entity ≡ focus_entity basis region values → (place : Place)
      → IsCellOf parts region t col entity place → IsEntityCell basis region values t col place
  cell_there owned values entity is place at =
      let P : Entity → Type 0 = λ e. IsCellPlace (schema_in parts) region.set t col e place in
      let cell : IsCellPlace (schema_in parts) region.set t col (focus_entity basis region values) place = subst P is (at region.set owned.0 owned.1) in
      record {
        at = record { table = cell.table; column = cell.column; has_column = cell.has_column; pairing = cell.pairing; owned = cell.owned };
        is = cell.place_is;
      }

  module _ (one two : Symbol) (first : IsFirstConflict parts (conflict.Clash (focus.Entity region) t col one two)) where
    abbrev clashing : Valuation
    clashing = clash_values basis region one two

    clash_listed : (s : SetId) × Contains (regions_of basis s) region
    clash_listed = region_listed basis region first.of_one

    clash_fact : IsTrue (is_clash basis (focus.Entity region) t col one two)
    clash_fact = fact_computed basis (basis_is parts first.are) first.are.limits (conflict.Clash (focus.Entity region) t col one two) first.of_one first.earlier first.so

    pub clash_column : (table : Table) × (column : Column) × HasColumn (schema_in parts) t table col column
    clash_column =
        let cell = cell_of basis.schema.store (writings_of basis (focus.Entity region)) t col first.so.lists_one.0 first.so.lists_one.1 in
        (cell.table, cell.column, record { is_table = cell.is_table; is_column = cell.is_column })

    clash_has_values : (entity : Entity) → entity ≡ focus_entity basis region clashing → HasValues basis 0 region entity clashing
    clash_has_values entity is = clash_has parts first.are clash_listed.0 region clash_listed.1 t col one two clash_fact entity is

    pub clash_values_of : (entity : Entity) → entity ≡ focus_entity basis region clashing → (values : Valuation) × HasValues basis 0 region entity values
    clash_values_of entity is = (clashing, clash_has_values entity is)

    pub clash_shown : (entity : Entity) → entity ≡ focus_entity basis region clashing → (place : Place) → IsCellOf parts region t col entity place → (state : State)
        → ((values : Valuation) → HasValues basis 0 region entity values → state ≡ small_focus basis 0 region values)
        → IsShownOf basis (conflict.Clash (focus.Entity region) t col one two) (shown_alone kind.Clash place state)
    clash_shown entity is place at state small = record {
      of_kind = refl;
      at_place = cell_there (row_owned basis (basis_is parts first.are) region t (first.so.lists_one.1.row, first.so.lists_one.1.is_row, first.so.lists_one.1.of_table))
          clashing entity is place at;
      states = λ k. (small clashing (clash_has_values entity is) k, None);
    }

  module _ (one : Symbol) (first : IsFirstConflict parts (conflict.NullIn (focus.Entity region) t col one)) where
    abbrev usual : Valuation
    usual = default_valuation basis 0 region

    null_has_values : (entity : Entity) → entity ≡ focus_entity basis region usual → HasValues basis 0 region entity usual
    null_has_values entity is = let listed = region_listed basis region first.of_one in usual_has parts first.are listed.0 region listed.1 0 (omega arith) entity is

    pub null_values_of : (entity : Entity) → entity ≡ focus_entity basis region usual → (values : Valuation) × HasValues basis 0 region entity values
    null_values_of entity is = (usual, null_has_values entity is)

    pub null_shown : (entity : Entity) → entity ≡ focus_entity basis region usual → (place : Place) → IsCellOf parts region t col entity place → (state : State)
        → ((values : Valuation) → HasValues basis 0 region entity values → state ≡ small_focus basis 0 region values)
        → IsShownOf basis (conflict.NullIn (focus.Entity region) t col one) (shown_alone kind.Null place state)
    null_shown entity is place at state small = record {
      of_kind = refl;
      at_place = cell_there (row_owned basis (basis_is parts first.are) region t first.so.row) usual entity is place at;
      states = λ k. (small usual (null_has_values entity is) k, None);
    }
