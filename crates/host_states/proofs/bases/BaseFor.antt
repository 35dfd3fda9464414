-- The state with an entity of a region that has a stated key is a base for the region.
use Rattle.std.proofs.Common.{ℕ, List}
use Rattle.round_trip.specs.Words.{SetId, Value}
use Rattle.regions.specs.declared.region.Region.{Region}
use Rattle.regions.specs.Basis.{Basis, Host}
use Rattle.regions.specs.Patterns.{Valuation}
use Rattle.population.specs.declared.placed.PlacedKey.{PlacedKey}
use Rattle.region_states.specs.Entities.{focus_entity}
use Rattle.host_states.specs.BaseStates.{IsBaseFor, IsOuterKey, IsStatedKey, base_state, keyed_values}
use Rattle.host_states.specs.FocusStates.{few_hosts, given_by, wanted_by}
use Rattle.host_states.proofs.bases.BaseLinks.{no_other_link, of_region}
use Rattle.host_states.proofs.bases.BaseValues.{keyed_free, keyed_key, keyed_made}
use Rattle.host_states.proofs.focus.Focus.{HasRegion, IsMade}
use Rattle.host_states.proofs.focus.FocusLinks.{state_legal}
use Rattle.host_states.proofs.bases.LedBack.{back_refers}
use Rattle.host_states.proofs.bases.Refers.{HasFreeValues, referred_back}

pub base_for : (basis : Basis) (outer : ℕ) (s : SetId) (region : Region) → HasRegion basis outer s region → (key : List Value) → IsStatedKey basis region key → IsOuterKey outer key
    → IsBaseFor basis outer s region key (base_state basis outer region key)
base_for basis outer s region of key stated is_outer =
    let values : Valuation = keyed_values basis outer region key in
    let hosts : List Host = few_hosts basis region in
    let wanted : List PlacedKey = wanted_by basis outer (given_by basis outer hosts region values) in
    let made : IsMade basis outer s region values hosts wanted = keyed_made basis outer s region of key stated is_outer in
    let free : HasFreeValues basis outer region values = keyed_free basis outer s region of key stated is_outer in
    record {
      legal = state_legal basis outer s region values hosts wanted made;
      entity = focus_entity basis region values;
      of_region = of_region basis outer s region values made free;
      keyed = keyed_key basis outer s region of key stated is_outer;
      no_link = no_other_link basis outer s region values made free;
      referred = (referred_back basis outer s region values hosts made free, back_refers basis outer s region values hosts made free);
    }
