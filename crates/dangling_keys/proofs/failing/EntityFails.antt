-- A foreign key that dangles at an entity, where no entity has the key that is shown, or the entity itself: the small state of the entity fails.
use Rattle.std.proofs.Common.{◌≡◌, inl, inr, ℕ, ◌≤◌, List, [], ◌∷◌, Contains, refl, sym, subst}
use Rattle.emc_base.proofs.Lists.{only_member}
use Rattle.emc_base.proofs.Members.{contains_head}
use Rattle.round_trip.specs.Words.{Assoc, AssocId, At, Entity, ForeignKey, IsLegal, Link, LinkFragment, PropId, Row, SetId, State, Value, cells_of, entities_in, links_in, place_at, row_key, rows_in}
use Rattle.round_trip.specs.declared.FailKind.TheVariants as kind
use Rattle.cells.specs.Limits.{IsWithinLimits}
use Rattle.regions.specs.Basis.{Basis, Host}
use Rattle.regions.specs.Patterns.{Valuation}
use Rattle.regions.specs.Regions.{regions_of}
use Rattle.regions.specs.declared.pattern.Focus.{Focus}
use Rattle.regions.specs.declared.pattern.Focus.TheVariants as focus
use Rattle.regions.specs.declared.region.Region.{Region}
use Rattle.regions.specs.region_laws.Held.{IsAtLinkRow, LinkedEntity}
use Rattle.regions.specs.region_laws.IsBasis.{IsBasis}
use Rattle.regions.proofs.region_laws.listing.Listed.{set_is}
use Rattle.region_states.specs.conflicts.There.{NoneFailsBy}
use Rattle.region_states.specs.HoldsFocus.{HoldsFocus}
use Rattle.region_states.specs.focus.Held.{IsRowOfOne}
use Rattle.region_states.proofs.Held.{focus_held}
use Rattle.population.specs.Support.{support}
use Rattle.population.specs.Supported.{links_of}
use Rattle.population.specs.declared.placed.Placed.{Placed}
use Rattle.population.specs.declared.placed.PlacedKey.{PlacedKey}
use Rattle.population.specs.declared.placed.PlacedLink.{PlacedLink}
use Rattle.population.proofs.pruning.NeededParts.{holds_needed}
use Rattle.population.proofs.supporting.Ends.{link_from}
use Rattle.host_states.specs.FocusStates.{given_by, linked_hosts, links_by, wanted_by}
use Rattle.host_states.specs.SmallStates.{roots_of}
use Rattle.host_states.proofs.focus.Focus.{HasRegion}
use Rattle.host_states.proofs.focus.FocusLinks.{IsGivenLink, given_link}
use Rattle.host_states.proofs.small.Small.{left_of}
use Rattle.host_states.proofs.small.SmallHosts.{small_host}
use Rattle.forced_entities.specs.Forced.{own_member}
use Rattle.forced_entities.specs.Held.{HasNoNull}
use Rattle.dangling_keys.specs.Dangling.{NoneFits, OwnLacks}
use Rattle.dangling_keys.specs.DanglingStates.{IsEntityRow, lone_state}
use Rattle.dangling_keys.specs.Failing.{FailsAtKey}
use Rattle.dangling_keys.specs.FlowStates.{AreOpen, flow_values}
use Rattle.dangling_keys.specs.Showing.{MayRefer}
use Rattle.dangling_keys.proofs.referring.EntityParts.{entity_parts, linked, not_null, open_, outer, row, told_read, valued, values}
use Rattle.dangling_keys.proofs.left_out.EntityRead.{made}
use Rattle.dangling_keys.proofs.left_out.FlowValues.{flow_admissible}
use Rattle.dangling_keys.proofs.referring.Fitting.{fitting_one}
use Rattle.dangling_keys.proofs.referring.Joined.{hosts_none, joined_given}
use Rattle.dangling_keys.proofs.left_out.LeftOut as left
use Rattle.dangling_keys.proofs.referring.NoRow.{fitting_shown, none_found}
use Rattle.dangling_keys.proofs.referring.Shown.{FailsShown, entity_place, entity_shown, told_entity}
use Rattle.dangling_keys.proofs.referring.Target.{IsShown, shown_fails, target_key, target_of, target_owned, target_shows}
use Rattle.dangling_keys.proofs.told.Told.{own_holds}

module _ (basis : Basis) (is : IsBasis basis) (limits : IsWithinLimits basis.schema) (none : NoneFailsBy basis.schema kind.Clash) (s : SetId) (region : Region) (listed : Contains (regions_of basis s) region)
    (key : ForeignKey) (is_key : Contains basis.schema.store.keys key) (may : MayRefer basis (focus.Entity region) key) where
  abbrev The : Focus
  The = focus.Entity region

  abbrev numbers : ℕ
  numbers = outer basis is limits s region listed key is_key may

  few : numbers ≤ 4
  few = row basis is limits s region listed key is_key may

  abbrev not_null_here : List PropId
  not_null_here = not_null basis is limits s region listed key is_key may

  abbrev open_here : AreOpen basis region not_null_here
  open_here = open_ basis is limits s region listed key is_key may

  -- the whole state, and its small part
  abbrev x : LinkedEntity basis
  x = linked basis is limits s region listed key is_key may

  abbrev own : Valuation
  own = flow_values basis numbers region not_null_here

  abbrev small : State
  small = lone_state basis The key

  abbrev roots : List PlacedKey
  roots = roots_of basis numbers region own

  of_region : HasRegion basis numbers s region
  of_region = left.of basis is limits numbers few s region listed not_null_here open_here

  small_holds : HoldsFocus basis region own small
  small_holds = (small_host basis is limits numbers few).holds (left.at basis is limits numbers few s region listed not_null_here open_here)
      (flow_admissible basis numbers s region of_region not_null_here open_here)

  legal : (one : State) → Contains (x.state ∷ []) one → IsLegal basis.schema.model one
  legal one has = subst (IsLegal basis.schema.model) (sym (only_member (x.state ∷ []) x.state one refl has)) x.legal

  inside : (u : SetId) (one : Entity) → Contains (entities_in small u) one → Contains (entities_in x.state u) one
  inside = left_of basis is (x.state ∷ []) legal roots x.state (contains_head x.state [])

  link_inside : (a : AssocId) (assoc : Assoc) → At basis.schema.model.assocs a.index assoc → (link : Link) → Contains (links_in small a) link → Contains (links_in x.state a) link
  link_inside a assoc here link has = (((holds_needed basis.schema.model (x.state ∷ []) roots x.state x.legal).links a assoc here link).0 has).0

  abbrev y : LinkedEntity basis
  y = record {
    state = small;
    legal = small_holds.legal;
    s = s;
    entity = x.entity;
    region = region;
    part = own.part;
    held = focus_held basis is (left.at basis is limits numbers few s region listed not_null_here open_here)
        (flow_admissible basis numbers s region of_region not_null_here open_here).allowed small small_holds;
  }

  no_null : HasNoNull basis not_null_here x.entity
  no_null = left.entity_no_null basis is limits numbers few s region listed not_null_here open_here

  shown : IsShown basis (told_entity basis is y) key small
  shown = entity_shown basis is none key is_key y may no_null

  -- no link of an association with a table of its own stands
  no_link : (fragment : LinkFragment) (assoc : Assoc) (link : Link) (at : List Value) → IsAtLinkRow basis small fragment assoc link key.to at → ⊥
  no_link fragment assoc link at by =
      let hosts : List Host = linked_hosts basis region in
      let given : List Placed = given_by basis numbers hosts region own in
      let wanted : List PlacedKey = wanted_by basis numbers given in
      let links : List PlacedLink = links_by basis region own hosts in
      let is_made = made basis numbers s region of_region not_null_here open_here in
      let among : Contains (links_of links fragment.assoc) link =
      joined_given basis is key.to fragment assoc by.joined numbers given (support basis.schema.model numbers given wanted) links link
      (link_inside fragment.assoc assoc by.joined.is_assoc link by.stands) in
      let found = link_from links fragment.assoc link among in
      let Of_assoc : PlacedLink → Type 0 = λ it. it.assoc ≡ fragment.assoc in
      let one : IsGivenLink basis numbers s region own hosts wanted is_made found.0 = given_link basis numbers s region own hosts wanted is_made found.0 found.1 in
      hosts_none basis is key.to fragment assoc by.joined s one.host (is_made.each one.host one.there).0 (subst Of_assoc one.is found.2)

  -- the state fails at the entity's row
  as_shown : FailsAtKey basis key (place_at shown.table.name (row_key shown.table shown.row) key.name) small → FailsShown basis The key small
  unfolding shown
  as_shown fails = record {
    place = place_at shown.table.name (row_key shown.table shown.row) key.name;
    at = fails;
    only = λ other named. entity_place basis is none key is_key y may no_null other (subst (λ u. IsEntityRow basis key.from key.name u x.entity other) (set_is basis s region listed) named);
  }

  pub none_fails : NoneFits basis The key → FailsShown basis The key small
  none_fails never = as_shown (shown_fails basis is (told_entity basis is y) key small shown (λ target at alike. by target at alike (target_of basis is (told_entity basis is y) key small shown target at alike)))
    where
      by : (target : Row) (at : Contains (rows_in shown.tables key.to) target) (alike : cells_of target key.to_cols ≡ cells_of shown.row key.from_cols)
          → IsRowOfOne basis small key.to (target_key basis is (told_entity basis is y) key small shown target at alike) → ⊥
      by target at alike (inr (fragment, assoc, link, link_row)) = no_link fragment assoc link (target_key basis is (told_entity basis is y) key small shown target at alike) link_row
      by target at alike (inl (u, entity, at_row)) =
          let owns = target_owned basis is (told_entity basis is y) key small shown target at alike u entity at_row in
          let stands = inside u entity at_row.at.stands in
          let fitting = fitting_one basis is limits numbers few The not_null_here (values basis is limits s region listed key is_key may) x.state x.legal
          (valued basis is limits s region listed key is_key may) key u entity stands at_row.pairing owns (target_shows basis is (told_entity basis is y) key small shown target at alike u entity at_row)
          (entity_parts basis is limits s region listed key is_key may at_row.pairing at_row.owned.cols) (told_read basis is limits s region listed key is_key may u entity stands) in
          never u at_row.pairing owns fitting.0 fitting.1 fitting.2

  pub own_fails : OwnLacks basis region key → FailsShown basis The key small
  own_fails lacks = as_shown (shown_fails basis is (told_entity basis is y) key small shown (λ target at alike.
      none_found basis is (told_entity basis is y) key small shown region.set lacks.pairing lacks.owns y refl (sym (set_is basis s region listed))
      (fitting_shown basis The key (values basis is limits s region listed key is_key may) region.set lacks.pairing (own_member basis region) x.entity lacks.fits (own_holds basis x).parts)
      lacks.no_row target at alike))
