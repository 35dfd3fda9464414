-- A state that leaves out what isn't forced sets its values apart: all parts of keys are of its row of numbers, and a symbol for a part has another number than what is unknown.
use Rattle.std.proofs.Common.{◌≡◌, ◌≢◌, ℕ, ◌≤◌, List, Contains, Option, Some, None, refl, sym, subst, ◌∙◌, arith}
use Rattle.std.specs.Option.{option_map_or}
use Rattle.std.specs.Prelude.{slice_get, []}
use Rattle.emc_base.proofs.Members.{contains_nil}
use Rattle.round_trip.specs.Words.{Assoc, AssocId, At, EntityModel, EntitySet, IsIndependent, Kind, Null, PropId, SetId, State, key_props}
use Rattle.round_trip.specs.soundness.Lookups.{set_key}
use Rattle.round_trip.specs.soundness.models.Inheritance.{IsKeyProp}
use Rattle.schema_laws.specs.short_values.Fresh.{added_value, fresh, fresh_at}
use Rattle.schema_laws.proofs.short_values.Places.{fresh_is}
use Rattle.schema_laws.proofs.short_values.Short.{fresh_apart}
use Rattle.schema_laws.proofs.sound_types.Inherited.{key_prop}
use Rattle.cells.specs.Limits.{IsWithinLimits}
use Rattle.regions.specs.Basis.{Basis}
use Rattle.regions.specs.Patterns.{Valuation, value_under}
use Rattle.regions.specs.Regions.{regions_of}
use Rattle.regions.specs.declared.pattern.Focus.{Focus}
use Rattle.regions.specs.declared.pattern.Focus.TheVariants as focus
use Rattle.regions.specs.declared.pattern.Symbol.{Symbol}
use Rattle.regions.specs.declared.region.Region.{Region}
use Rattle.regions.specs.region_laws.IsBasis.{IsBasis}
use Rattle.population.specs.Given.{HasNumbers}
use Rattle.host_states.proofs.focus.Focus.{HasRegion}
use Rattle.dangling_keys.specs.Flow.{IsFlow}
use Rattle.dangling_keys.specs.FlowStates.{AreOpen, flow_state, flow_values, values_of_focus}
use Rattle.dangling_keys.specs.LeftOut.{LeavesUnforcedOut, SetsApart}
use Rattle.dangling_keys.specs.Laws.{LeavesOutAt}
use Rattle.dangling_keys.proofs.left_out.Flow.{flow_small}
use Rattle.dangling_keys.proofs.left_out.FlowValues.{flow_value}
use Rattle.dangling_keys.proofs.left_out.LeftOut.{entity_leaves, fresh_there, link_leaves}
use Rattle.dangling_keys.proofs.left_out.LinkRead.{link_value, link_values, link_values_are}
use Rattle.dangling_keys.proofs.referring.KeyNumbers.{key_numbered}

-- a property of the key of a set is declared, and the set is there
set_there : (model : EntityModel) (u : SetId) (p : PropId) → Contains (set_key model u) p → (set : EntitySet) × At model.sets u.index set × Contains (key_props model set.element) p
set_there model u p part = by (slice_get model.sets u.index) refl part
  where
    by : (found : Option EntitySet) → slice_get model.sets u.index ≡ found → Contains (option_map_or (λ (entry : EntitySet). key_props model entry.element) found []) p
        → (set : EntitySet) × At model.sets u.index set × Contains (key_props model set.element) p
    by None here part = absurd (contains_nil p part)
    by (Some set) here part = (set, here, part)

module _ (basis : Basis) (is : IsBasis basis) (limits : IsWithinLimits basis.schema) (outer : ℕ) (row : outer ≤ 4) (of : Focus) (not_null : List PropId) (values : Valuation) (state : State)
    (valued : (one : Symbol) (i : ℕ) → IsFlow basis of one i → value_under values one ≢ Null → (k : Kind) × (value_under values one ≡ fresh k outer i))
    (leaves : LeavesUnforcedOut basis outer of values not_null state) where
  abbrev model : EntityModel
  model = basis.schema.model

  -- what is unknown has a number that no symbol has
  not_unknown : (u : SetId) (p : PropId) → Contains (set_key model u) p → (one : Symbol) (i : ℕ) → IsFlow basis of one i → value_under values one ≡ fresh_at model outer p (added_value 0) → ⊥
  not_unknown u p part one i flow same =
      let there = set_there model u p part in
      let own : IsKeyProp model p = key_prop model is.sound.model p there.0.element there.2 in
      let fresh_one : value_under values one ≡ fresh own.declared.kind outer (added_value 0) = same ∙ fresh_is model p own.declared own.is_declared outer (added_value 0) in
      let value = valued one i flow (fresh_there own.declared.kind outer (added_value 0) (value_under values one) fresh_one) in
      let index = (fresh_apart value.0 own.declared.kind outer outer i (added_value 0) row row (sym value.1 ∙ fresh_one)).1 in
      let small = flow_small basis is limits of one i flow in
      absurd (omega (arith, index, small))

  pub sets_apart : SetsApart basis outer of values state
  sets_apart = record {
    numbered = λ u entity stands p part is_outer. (
        let number = key_numbered basis is limits outer row of not_null values state leaves.legal valued u entity stands (leaves.read u entity stands) p part in
        is_outer number.0 number.1 number.2 number.3);
    unknown = not_unknown;
  }

-- with an entity of a region
pub entity_apart : (basis : Basis) (is : IsBasis basis) (limits : IsWithinLimits basis.schema) (outer : ℕ) (row : outer ≤ 4) (s : SetId) (region : Region) (listed : Contains (regions_of basis s) region)
    (not_null : List PropId) (open_ : AreOpen basis region not_null) → LeavesOutAt basis outer (focus.Entity region) not_null
entity_apart basis is limits outer row s region listed not_null open_ =
    let of : HasRegion basis outer s region = record { is = is; limits = limits; row = row; listed = listed } in
    let leaves = entity_leaves basis is limits outer row s region listed not_null open_ in
    record {
      leaves = leaves;
      apart = sets_apart basis is limits outer row (focus.Entity region) not_null (flow_values basis outer region not_null) (flow_state basis outer (focus.Entity region) not_null)
          (flow_value basis outer s region of not_null open_) leaves;
    }

-- with a link
pub link_apart : (basis : Basis) (is : IsBasis basis) (limits : IsWithinLimits basis.schema) (outer : ℕ) (row : outer ≤ 4) (a : AssocId) (assoc : Assoc) (here : At basis.schema.model.assocs a.index assoc)
    (independent : IsIndependent assoc) (not_null : List PropId) → LeavesOutAt basis outer (focus.Link a) not_null
link_apart basis is limits outer row a assoc here independent not_null =
    let has : HasNumbers basis.schema.model outer = record { sound = is.sound.model; few = limits.model.0; row = row } in
    let leaves = link_leaves basis is limits outer row a assoc here independent not_null in
    let made : Valuation = link_values basis is outer has a assoc here not_null in
    let same_values : values_of_focus basis outer (focus.Link a) not_null ≡ made = link_values_are basis is outer has a assoc here not_null in
    let Valued : Valuation → Type 0 = λ values. (one : Symbol) (i : ℕ) → IsFlow basis (focus.Link a) one i → value_under values one ≢ Null → (k : Kind) × (value_under values one ≡ fresh k outer i) in
    let valued : Valued made = λ one i flow some. link_value basis is outer has a assoc here not_null one i flow in
    record {
      leaves = leaves;
      apart = sets_apart basis is limits outer row (focus.Link a) not_null (values_of_focus basis outer (focus.Link a) not_null) (flow_state basis outer (focus.Link a) not_null)
          (subst Valued (sym same_values) valued) leaves;
    }
