-- The focus alone: its values are admissible, and what it is made of and the state are those of the definition.
use Rattle.std.proofs.Common.{◌≡◌, ◌≤◌, ℕ, List, [], ◌∷◌, flat_map, map, slice_get, Option, Result, IfOk, refl, sym, ap, subst, ◌∙◌}
use Rattle.std.specs.Option.{option_map_or}
use Rattle.emc_base.specs.declared.memory.Memory.{Memory}
use Rattle.round_trip.specs.Words.{Assoc, AssocId, Entity, ForeignKey, PropId, State, key_of}
use Rattle.cells.specs.Limits.{IsWithinLimits}
use Rattle.failure_laws.specs.SmallLinks.{both_ends, small_link}
use Rattle.failure_laws.specs.Witnesses.{empty_state}
use Rattle.host_states.specs.FocusStates.{by_assoc, given_by, linked_hosts, links_by, partner_of}
use Rattle.host_states.specs.SmallStates.{small_focus}
use Rattle.host_states.proofs.focus.Focus.{HasRegion}
use Rattle.population.specs.LinkStates.{of_assoc, placed_at, plain_link}
use Rattle.population.specs.declared.placed.Placed.{Placed}
use Rattle.population.specs.declared.placed.PlacedLink.{PlacedLink}
use Rattle.regions.specs.Basis.{Basis}
use Rattle.regions.specs.Patterns.{Valuation}
use Rattle.regions.specs.declared.pattern.Focus.{Focus}
use Rattle.regions.specs.declared.pattern.Focus.TheVariants as focus
use Rattle.regions.specs.declared.region.Region.{Region}
use Rattle.regions.specs.region_laws.IsBasis.{IsBasis}
use Rattle.region_states.specs.Entities.{focus_entity}
use Rattle.dangling_keys.specs.DanglingStates.{lone_given, lone_links, lone_state}
use Rattle.dangling_keys.specs.FlowStates.{AreOpen, flow_values}
use Rattle.dangling_keys.specs.Outer.{outer_row}
use Rattle.dangling_keys.specs.Showing.{not_null_for}
use Rattle.dangling_keys.proofs.left_out.FlowValues.{flow_admissible}
use Rattle.dangling_keys.proofs.referring.Listing.{are_open}
use Rattle.witness_state.specs.Small.{HasValues}
use Rattle.witness_state.specs.SmallRegions.{given_with, link_with, links_with}
use Rattle.witness_state.specs.declared.small_regions.gathering.Gathered.{Gathered}
use Rattle.dangling_states.specs.Referring.{Refers}
use Rattle.dangling_states.proofs.Results.{told_as}

module _ (basis : Basis) (of : Focus) (key : ForeignKey) (row : ℕ) (row_is : row ≡ outer_row basis of key) where
  module _ (not_null : List PropId) (not_null_is : not_null ≡ not_null_for basis of key) (region : Region) (of_is : of ≡ focus.Entity region) where
    row_here : row ≡ outer_row basis (focus.Entity region) key
    row_here = row_is ∙ ap (λ (it : Focus). outer_row basis it key) of_is

    not_null_here : not_null ≡ not_null_for basis (focus.Entity region) key
    not_null_here = not_null_is ∙ ap (λ (it : Focus). not_null_for basis it key) of_is

    pub entity_has : IsBasis basis → IsWithinLimits basis.schema → row ≤ 4 → Refers basis of key → (entity : Entity) → entity ≡ focus_entity basis region (flow_values basis row region not_null)
        → HasValues basis row region entity (flow_values basis row region not_null)
    entity_has is limits few refers entity made =
        let here : Refers basis (focus.Entity region) key = subst (λ (it : Focus). Refers basis it key) of_is refers in
        let open_ : AreOpen basis region not_null = subst (AreOpen basis region) (sym not_null_here) (are_open basis is here.of_rows.0 region here.of_rows.1 key here.is_key here.refers.row) in
        let of_region : HasRegion basis row here.of_rows.0 region = record { is = is; limits = limits; row = few; listed = here.of_rows.1 } in
        record { s = here.of_rows.0; listed = here.of_rows.1; is = made; admissible = flow_admissible basis row here.of_rows.0 region of_region not_null open_; parts = refl }

    pub entity_state : small_focus basis row region (flow_values basis row region not_null) ≡ lone_state basis of key
    entity_state = (λ k. small_focus basis (row_here k) region (flow_values basis (row_here k) region (not_null_here k))) ∙ sym (ap (λ (it : Focus). lone_state basis it key) of_is)

    pub entity_state_told : IsBasis basis → IsWithinLimits basis.schema → row ≤ 4 → Refers basis of key → (entity : Entity) → entity ≡ focus_entity basis region (flow_values basis row region not_null)
        → (result : Result State Memory) → ((values : Valuation) → HasValues basis row region entity values → IfOk result (λ state. state ≡ small_focus basis row region values))
        → IfOk result (λ state. state ≡ lone_state basis of key)
    entity_state_told is limits few refers entity made result came =
        told_as (λ (state : State). state) (small_focus basis row region (flow_values basis row region not_null)) (lone_state basis of key) entity_state result
        (came (flow_values basis row region not_null) (entity_has is limits few refers entity made))

    module _ (entity : Entity) (made : entity ≡ focus_entity basis region (flow_values basis row region not_null)) where
      entity_given : given_with basis row region entity ≡ lone_given basis of key
      entity_given =
          (λ k. record { set = region.set; entity = made k } ∷ flat_map (by_assoc basis (partner_of basis row (flow_values basis row region not_null))) (linked_hosts basis region))
          ∙ (λ k. given_by basis (row_here k) (linked_hosts basis region) region (flow_values basis (row_here k) region (not_null_here k))) ∙ sym (ap (λ (it : Focus). lone_given basis it key) of_is)

      entity_links : links_with basis row region entity ≡ lone_links basis of key
      entity_links =
          (λ k. flat_map (by_assoc basis (link_with basis row (key_of basis.schema.model (made k)))) (linked_hosts basis region))
          ∙ (λ k. links_by basis region (flow_values basis (row_here k) region (not_null_here k)) (linked_hosts basis region)) ∙ sym (ap (λ (it : Focus). lone_links basis it key) of_is)

      pub entity_given_told : (result : Result Gathered Memory) → IfOk result (λ it. it.given ≡ given_with basis row region entity) → IfOk result (λ it. it.given ≡ lone_given basis of key)
      entity_given_told result came = told_as (λ (it : Gathered). it.given) (given_with basis row region entity) (lone_given basis of key) entity_given result came

      pub entity_links_told : (result : Result Gathered Memory) → IfOk result (λ it. it.links ≡ links_with basis row region entity) → IfOk result (λ it. it.links ≡ lone_links basis of key)
      entity_links_told result came = told_as (λ (it : Gathered). it.links) (links_with basis row region entity) (lone_links basis of key) entity_links result came

  module _ (a : AssocId) (of_is : of ≡ focus.Link a) where
    link_row : outer_row basis (focus.Link a) key ≡ row
    link_row = ap (λ (it : Focus). outer_row basis it key) (sym of_is) ∙ sym row_is

    module _ (found : Option Assoc) (here : slice_get basis.schema.model.assocs a.index ≡ found) where
      abbrev given_at : ℕ → Option Assoc → List Placed
      given_at outer one = option_map_or (λ assoc. map (placed_at basis.schema.model outer) (both_ends basis.schema.model outer a assoc)) one []

      abbrev links_at : ℕ → Option Assoc → List PlacedLink
      links_at outer one = option_map_or (λ assoc. of_assoc basis.schema.model outer a (plain_link basis.schema.model outer assoc) ∷ []) one []

      abbrev state_at : ℕ → Option Assoc → State
      state_at outer one = option_map_or (small_link basis.schema.model outer a) one (empty_state basis.schema.model)

      pub link_given : lone_given basis of key ≡ given_at row found
      link_given = ap (λ (it : Focus). lone_given basis it key) of_is ∙ (λ k. given_at (link_row k) (here k))

      pub link_links : lone_links basis of key ≡ links_at row found
      link_links = ap (λ (it : Focus). lone_links basis it key) of_is ∙ (λ k. links_at (link_row k) (here k))

      pub link_state : lone_state basis of key ≡ state_at row found
      link_state = ap (λ (it : Focus). lone_state basis it key) of_is ∙ (λ k. state_at (link_row k) (here k))

      -- the same of what came
      pub link_state_told : (result : Result State Memory) → IfOk result (λ state. state ≡ state_at row found) → IfOk result (λ state. state ≡ lone_state basis of key)
      link_state_told result made = told_as (λ (state : State). state) (state_at row found) (lone_state basis of key) (sym link_state) result made

      pub link_given_told : (result : Result Gathered Memory) → IfOk result (λ made. made.given ≡ given_at row found) → IfOk result (λ made. made.given ≡ lone_given basis of key)
      link_given_told result made = told_as (λ (it : Gathered). it.given) (given_at row found) (lone_given basis of key) (sym link_given) result made

      pub link_links_told : (result : Result Gathered Memory) → IfOk result (λ made. made.links ≡ links_at row found) → IfOk result (λ made. made.links ≡ lone_links basis of key)
      link_links_told result made = told_as (λ (it : Gathered). it.links) (links_at row found) (lone_links basis of key) (sym link_links) result made
