-- Where a region leaves no row and has one entity for each key, the state with its entity has the same tables as one without it.
use Rattle.std.proofs.Common.{◌≡◌, ◌≢◌, inl, inr, ⊎_elim, [], List, Contains, None, refl, sym, subst, arith}
use Rattle.round_trip.specs.Words.{TableId, DemandsCell, DemandsRow, Entity, EntitySet, FailsAt, Null, State, Table, Value, At, cell_of, entities_in, key_of, place_at, row_key}
use Rattle.round_trip.specs.FailsAt.{HasEntityOnly}
use Rattle.round_trip.specs.declared.FailKind.TheVariants as kind
use Rattle.round_trip.specs.soundness.mappings.Mappings.{IsSoundSchema}
use Rattle.schema_laws.specs.sound_demand.Made.{tables_for}
use Rattle.schema_laws.proofs.sound_demand.Kept.{tables_there}
use Rattle.regions.specs.Basis.{Basis}
use Rattle.regions.specs.Patterns.{Valuation}
use Rattle.regions.specs.region_laws.Held.{IsAtRow, IsHeldAt, LinkedEntity}
use Rattle.regions.proofs.region_laws.listing.Listed.{set_is}
use Rattle.regions.specs.region_laws.IsBasis.{IsBasis}
use Rattle.regions.specs.region_laws.pattern.Allowed.{RegionValues}
use Rattle.region_states.proofs.focus.Demanded.{rows}
use Rattle.region_states.proofs.defaults.Defaults.{default_admissible}
use Rattle.region_states.specs.defaults.Defaults.{default_valuation}
use Rattle.region_states.specs.Entities.{focus_entity}
use Rattle.host_states.specs.Hosting.{DifferAtMostAt, LeavesFocusOut}
use Rattle.region_states.proofs.Held.{focus_held}
use Rattle.conflict_laws.specs.same.SameValues.{first_several}
use Rattle.conflict_laws.proofs.same.states.Different.{same_fails}
use Rattle.conflict_laws.proofs.same.states.Legal.{one_at_key, unclashed}
use Rattle.conflict_laws.proofs.same.states.Moved.{IsAtFocus, mirrored, moved}
use Rattle.conflict_laws.proofs.same.states.SameTables.{AgreeAt, AgreeEverywhere, IsAtEither, agree_everywhere, tables_too}
use Rattle.conflict_laws.proofs.same.lost.Absent.{never_row, one_per_key}
use Rattle.conflict_laws.specs.States.{RivalStates}
use Rattle.conflict_laws.specs.Told.{AbsentRegion}

module _ (basis : Basis) (given : RivalStates basis) (at : AbsentRegion basis) where
  module _ (set : EntitySet) (is_set : At basis.schema.model.sets at.s.index set) (values : Valuation) (c d : State) (leaves : LeavesFocusOut basis at.region values c d)
      (held : IsHeldAt basis c at.s (focus_entity basis at.region values) at.region values.part) where
    abbrev linked : LinkedEntity basis
    linked = record {
      state = c;
      legal = leaves.first.legal;
      s = at.s;
      entity = focus_entity basis at.region values;
      region = at.region;
      part = values.part;
      held = held;
    }

    -- the key of the entity
    abbrev focus_key : List Value
    focus_key = key_of basis.schema.model (focus_entity basis at.region values)

    -- the states differ at this key of the set at most
    differ_there : DifferAtMostAt basis at.s focus_key c d
    differ_there = subst (λ u. DifferAtMostAt basis u focus_key c d) (set_is basis at.s at.region at.listed) leaves.alike

    -- no entity of the key stands in the second state
    left_out : (entity : Entity) → Contains (entities_in d at.s) entity → key_of basis.schema.model entity ≢ focus_key
    left_out entity stands = leaves.left_out entity (subst (λ u. Contains (entities_in d u) entity) (sym (set_is basis at.s at.region at.listed)) stands)

    -- the first state demands no row of the entity
    no_row : (t : TableId) (key : List Value) → IsAtFocus basis at.s focus_key c t key → DemandsRow basis.schema c t key → ⊥
    no_row t key by demand =
        let same : by.entity ≡ focus_entity basis at.region values =
        one_at_key basis.schema.model c leaves.first.legal at.s set is_set by.entity (focus_entity basis at.region values) by.at_row.at.stands held.stands by.keyed in
        let here : IsAtRow basis c at.s (focus_entity basis at.region values) t key = subst (λ e. IsAtRow basis c at.s e t key) same by.at_row in
        never_row basis at t ((rows basis given.clear.given.is_basis linked t key here).0 demand)

    -- nor does the second
    no_row_there : (t : TableId) (key : List Value) → IsAtFocus basis at.s focus_key c t key → DemandsRow basis.schema d t key → ⊥
    no_row_there t key by (writing, writes) = ⊎_elim
        (λ (there : IsAtFocus basis at.s focus_key d t key). left_out there.entity there.at_row.at.stands there.keyed)
        (λ other. no_row t key by (writing, other))
        (moved basis given.clear.given.is_basis at.s focus_key d c leaves.second leaves.first.legal (mirrored basis at.s focus_key c d differ_there) t key writing writes)

    -- so they agree at the rows of this key
    focus_agrees : (t : TableId) (table : Table) → At basis.schema.store.tables t.index table → (key : List Value) → IsAtEither basis at.s focus_key c d t key
        → AgreeAt basis.schema c d t table key
    focus_agrees t table here key (inr by) = absurd (left_out by.entity by.at_row.at.stands by.keyed)
    focus_agrees t table here key (inl by) = record {
      rows = ((λ demand. absurd (no_row t key by demand)), (λ demand. absurd (no_row_there t key by demand)));
      cells = λ row same holds. record {
        demanded = λ col value demand. absurd (no_row_there t (row_key table row) (subst (IsAtFocus basis at.s focus_key c t) (sym same) by) (demand.0, demand.1));
        only = λ col column at_col. ⊎_elim
            (λ (null : cell_of row col ≡ Null). inl null)
            (λ (demand : DemandsCell basis.schema c t (row_key table row) col (cell_of row col)).
            absurd (no_row t (row_key table row) (subst (IsAtFocus basis at.s focus_key c t) (sym same) by) (demand.0, demand.1)))
            (holds.only col column at_col);
      };
    }

    -- and fail
    left_out_fails : FailsAt basis.schema kind.Same (place_at set.name (key_of basis.schema.model (focus_entity basis at.region values)) []) c d
    left_out_fails =
        let agree : AgreeEverywhere basis.schema c d =
        agree_everywhere basis given.clear.given.is_basis at.s focus_key c d leaves.first.legal leaves.second differ_there focus_agrees in
        let sound : IsSoundSchema basis.schema = given.clear.given.is_basis.sound in
        let are_c = tables_there basis.schema sound c (unclashed basis.schema sound given.clear.no_clash c leaves.first.legal) in
        let are_d = tables_too basis.schema c d agree (unclashed basis.schema sound given.clear.no_clash d leaves.second) (tables_for basis.schema c) are_c in
        let entity : Entity = focus_entity basis at.region values in
        let only : HasEntityOnly basis.schema.model at.s focus_key c d = (entity, held.stands, refl, λ there. left_out entity there refl) in
        same_fails basis.schema c d at.s focus_key only leaves.first.legal leaves.second set is_set (tables_for basis.schema c) are_c are_d

  -- where no property may have several values, the states with its entity and without it fail
  pub absent_fails : first_several basis at.region ≡ None → (set : EntitySet) → At basis.schema.model.sets at.s.index set
      → FailsAt basis.schema kind.Same (place_at set.name (key_of basis.schema.model (focus_entity basis at.region (default_valuation basis 0 at.region))) [])
      (given.leaving at.region (default_valuation basis 0 at.region)).0 (given.leaving at.region (default_valuation basis 0 at.region)).1
  absent_fails none set is_set =
      let is : IsBasis basis = given.clear.given.is_basis in
      let values : Valuation = default_valuation basis 0 at.region in
      let admissible = default_admissible basis is given.clear.given.limits at.s at.region at.listed 0 (omega arith) in
      let states = given.leaving at.region values in
      let at_values : RegionValues basis = record { s = at.s; region = at.region; listed = at.listed; values = values } in
      let leaves : LeavesFocusOut basis at.region values states.0 states.1 =
      given.leave.leave given.few at_values (one_per_key basis is at none) admissible in
      left_out_fails set is_set values states.0 states.1 leaves (focus_held basis is at_values admissible.allowed states.0 leaves.first)
