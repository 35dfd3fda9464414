-- For each region legal states that hold an entity of it.
use Rattle.std.proofs.Common.{◌≤◌, ℕ, List}
use Rattle.cells.specs.Limits.{IsWithinLimits}
use Rattle.regions.specs.declared.region.Region.{Region}
use Rattle.regions.specs.Basis.{Basis}
use Rattle.regions.specs.region_laws.IsBasis.{IsBasis}
use Rattle.host_states.specs.Hosting.{HostsFocuses, HostsRivals, LeavesOut}
use Rattle.population.specs.declared.placed.PlacedKey.{PlacedKey}
use Rattle.host_states.specs.FocusStates.{focus_state, given_by, leaving_states, linked_hosts, rival_states, wanted_by}
use Rattle.host_states.proofs.focus.Focus.{HasRegion}
use Rattle.host_states.proofs.focus.FocusHeld.{holds_focus}
use Rattle.host_states.proofs.focus.HostEnds.{is_linked_host}
use Rattle.host_states.proofs.pairs.Leaves.{focus_leaves}
use Rattle.host_states.proofs.pairs.Rivals.{focus_made, focus_wants_short, rivals_hold}

module _ (basis : Basis) (is : IsBasis basis) (limits : IsWithinLimits basis.schema) (outer : ℕ) (row : outer ≤ 4) where
  pub states_host : HostsFocuses basis outer (focus_state basis outer)
  states_host = record {
    holds = λ at admissible. (
        let of : HasRegion basis outer at.s at.region = record { is = is; limits = limits; row = row; listed = at.listed } in
        let wanted : List PlacedKey = wanted_by basis outer (given_by basis outer (linked_hosts basis at.region) at.region at.values) in
        holds_focus basis outer at.s at.region at.values (linked_hosts basis at.region) wanted
        (focus_made basis outer at.s at.region of at.values admissible wanted (focus_wants_short basis outer at.s at.region of at.values admissible) (λ to has. has))
        (is_linked_host basis is at.s at.region at.listed));
  }

  pub states_rival : HostsRivals basis outer (rival_states basis outer)
  states_rival = record {
    hold = λ few pair. (
        let of : HasRegion basis outer pair.s pair.one = record { is = is; limits = limits; row = row; listed = pair.is_one } in
        let of_two : HasRegion basis outer pair.s pair.two = record { is = is; limits = limits; row = row; listed = pair.is_two } in
        rivals_hold basis outer pair.s pair.one pair.two of of_two pair.linked pair.values pair.others pair.admissible pair.others_admissible pair.partners pair.keys few);
  }

  pub states_leave : LeavesOut basis outer (leaving_states basis outer)
  states_leave = record {
    leave = λ few at single admissible. (
        let of : HasRegion basis outer at.s at.region = record { is = is; limits = limits; row = row; listed = at.listed } in
        focus_leaves basis outer at.s at.region of at.values admissible single few);
  }
