-- What holds of states with an entity of a region holds of their small parts.
use Rattle.std.proofs.Common.{◌≡◌, ◌⊎◌, ⊎_elim, ℕ, ◌≤◌, List, [], ◌∷◌, ◌++◌, map, Contains, Bool, not, refl, sym, ap, subst, ◌∙◌}
use Rattle.std.proofs.lemmas.List.Elements.{Contains-append_left, Contains-append_right}
use Rattle.emc_base.proofs.FoundItems.{contains_flat_map}
use Rattle.emc_base.proofs.Lists.{only_member}
use Rattle.emc_base.proofs.Mapped.{contains_map}
use Rattle.emc_base.proofs.Members.{contains_cons_cases, contains_head, contains_tail}
use Rattle.round_trip.specs.Words.{SetId, Assoc, End, Entity, EntityModel, Link, State, Value, At, IsLegal, key_of}
use Rattle.cells.specs.Limits.{IsWithinLimits}
use Rattle.regions.specs.declared.region.Region.{Region}
use Rattle.regions.specs.Basis.{Basis, Host}
use Rattle.regions.specs.Patterns.{Valuation}
use Rattle.regions.specs.Regions.{regions_of}
use Rattle.regions.specs.region_laws.IsBasis.{IsBasis}
use Rattle.regions.specs.region_laws.RegionAt.{links_at}
use Rattle.region_states.specs.defaults.Admissible.{IsAdmissible}
use Rattle.region_states.specs.Entities.{focus_entity}
use Rattle.host_states.specs.Hosting.{HostsFocuses, HostsRivals, HoldRivals, LeavesFocusOut, LeavesOut}
use Rattle.region_states.specs.HoldsFocus.{HoldsFocus}
use Rattle.population.specs.Kept.{key_at_end}
use Rattle.population.specs.Numbered.{end_of}
use Rattle.population.specs.declared.placed.PlacedKey.{PlacedKey}
use Rattle.population.specs.Supported.{link_of}
use Rattle.population.specs.declared.placed.Placed.{Placed}
use Rattle.population.proofs.supporting.Links.{far_key, near_key}
use Rattle.host_states.specs.FocusStates.{by_assoc, focus_state, given_by, leaving_states, linked_hosts, partner_of, rival_states, state_by, told_key, wanted_by, wanted_by_both}
use Rattle.host_states.specs.SmallStates.{key_of_placed, roots_of, small_focus, small_leaving, small_rivals}
use Rattle.host_states.proofs.focus.Focus.{HasRegion, IsMade, partner_has, region_set}
use Rattle.host_states.proofs.focus.FocusHeld.{only_link, the_link}
use Rattle.host_states.proofs.focus.FocusLinks.{side_cases}
use Rattle.host_states.proofs.focus.HostEnds.{IsLinkedHost, host_side, is_linked_host, near_set, partner_side, to_assoc}
use Rattle.host_states.proofs.Hosts.{states_host, states_leave, states_rival}
use Rattle.host_states.proofs.pairs.Rivals.{focus_made, focus_wants_short, one_made, two_made}
use Rattle.host_states.proofs.small.Small.{IsRooted, differ_left, focus_left, left_of, part_legal}

module _ (basis : Basis) (outer : ℕ) (s : SetId) (region : Region) (values : Valuation) (wanted : List PlacedKey)
    (made : IsMade basis outer s region values (linked_hosts basis region) wanted) where
  abbrev model : EntityModel
  model = basis.schema.model

  abbrev hosts : List Host
  hosts = linked_hosts basis region

  abbrev state : State
  state = state_by basis outer hosts wanted region values

  abbrev entity : Entity
  entity = focus_entity basis region values

  focus_root : Contains (roots_of basis outer region values) (record { set = region.set; key = key_of model entity })
  focus_root = contains_head (key_of_placed basis outer (record { set = region.set; entity = entity })) _

  module _ (host : Host) (hosted : Contains (basis.hosts s) host) (linked : Contains region.linked host.assoc) (assoc : Assoc) (here : At model.assocs host.assoc.index assoc) where
    there : Contains hosts host
    there = is_linked_host basis made.of.is s region made.of.listed host hosted linked

    by_host : IsLinkedHost basis s region host assoc
    by_host = record { hosts = hosted; linked = linked; is_assoc = here }

    partner_root : Contains (roots_of basis outer region values) (record { set = (end_of (not host.first_hosts) assoc).set; key = told_key basis values host assoc })
    partner_root =
        let placed : Placed = partner_of basis outer values host assoc in
        let given : Contains (given_by basis outer hosts region values) placed =
        contains_tail _ _ placed (contains_flat_map (by_assoc basis (partner_of basis outer values)) hosts host placed there (to_assoc basis (partner_of basis outer values) host assoc here)) in
        let same : key_of_placed basis outer placed ≡ record { set = (end_of (not host.first_hosts) assoc).set; key = told_key basis values host assoc } =
        λ k. record {
          set = ap (λ (end : End). end.set) (partner_side host.first_hosts assoc) k;
          key = partner_has basis outer s region made.of values made.admissible host assoc by_host k;
        } in
        subst (Contains (roots_of basis outer region values)) same (contains_map (key_of_placed basis outer) (given_by basis outer hosts region values) placed given)

    -- both ends of its link are among the roots
    ends_rooted : (link : Link) → links_at state host (key_of model entity) ≡ link ∷ [] → (first : Bool) → Contains (roots_of basis outer region values) (key_at_end first assoc link)
    ends_rooted link one first =
        let key_told : List Value = told_key basis values host assoc in
        let made_link : Link = the_link basis outer s region values hosts wanted made host hosted assoc here in
        let only : made_link ∷ [] ≡ link ∷ [] = sym (only_link basis outer s region values hosts wanted made host hosted assoc here there) ∙ one in
        let is : made_link ≡ link = cc in
        subst (λ (it : Link). Contains (roots_of basis outer region values) (key_at_end first assoc it)) is
        (⊎_elim
        (λ (near : first ≡ host.first_hosts).
        subst (λ b. Contains (roots_of basis outer region values) (key_at_end b assoc made_link)) (sym near)
        (subst (Contains (roots_of basis outer region values)) (near_is key_told) focus_root))
        (λ (far : first ≡ not host.first_hosts).
        subst (λ b. Contains (roots_of basis outer region values) (key_at_end b assoc made_link)) (sym far)
        (subst (Contains (roots_of basis outer region values)) (far_is key_told) partner_root))
        (side_cases first host.first_hosts))
      where
        near_is : (told : List Value) → record { set = region.set; key = key_of model entity } ≡ key_at_end host.first_hosts assoc (link_of host.first_hosts (key_of model entity) told)
        near_is told k = record {
          set = (region_set basis outer s region made.of ∙ sym (near_set basis made.of.is s region made.of.listed host assoc by_host)) k;
          key = sym (near_key host.first_hosts (key_of model entity) told) k;
        }

        far_is : (told : List Value) → record { set = (end_of (not host.first_hosts) assoc).set; key = told } ≡ key_at_end (not host.first_hosts) assoc (link_of host.first_hosts (key_of model entity) told)
        far_is told k = record { set = (end_of (not host.first_hosts) assoc).set; key = sym (far_key host.first_hosts (key_of model entity) told) k }

  -- so roots that hold those of the entity name all that its links name
  pub rooted : (roots : List PlacedKey) → ((root : PlacedKey) → Contains (roots_of basis outer region values) root → Contains roots root) → IsRooted basis roots state region values
  rooted roots holds = record {
    focus = holds _ focus_root;
    ends = λ host hosted linked assoc here link one first. (
        holds (key_at_end first assoc link)
        (ends_rooted host (subst (λ u. Contains (basis.hosts u) host) (region_set basis outer s region made.of) hosted) linked assoc here link one first));
  }

-- each of some legal states is legal
legal_one : (model : EntityModel) (state : State) → IsLegal model state → (one : State) → Contains (state ∷ []) one → IsLegal model one
legal_one model state legal one has = subst (IsLegal model) (sym (only_member (state ∷ []) state one refl has)) legal

legal_both : (model : EntityModel) (c d : State) → IsLegal model c → IsLegal model d → (one : State) → Contains (c ∷ (d ∷ [])) one → IsLegal model one
legal_both model c d legal_c legal_d one has = ⊎_elim
    (λ (is : one ≡ c). subst (IsLegal model) (sym is) legal_c)
    (λ (later : Contains (d ∷ []) one). legal_one model d legal_d one later)
    (contains_cons_cases c (d ∷ []) one has)

module _ (basis : Basis) (is : IsBasis basis) (limits : IsWithinLimits basis.schema) (outer : ℕ) (row : outer ≤ 4) where
  of_region : (s : SetId) (region : Region) → Contains (regions_of basis s) region → HasRegion basis outer s region
  of_region s region listed = record { is = is; limits = limits; row = row; listed = listed }

  focus_rooted : (s : SetId) (region : Region) (listed : Contains (regions_of basis s) region) (values : Valuation) → IsAdmissible basis outer region values
      → IsRooted basis (roots_of basis outer region values) (focus_state basis outer region values) region values
  focus_rooted s region listed values admissible =
      let of : HasRegion basis outer s region = of_region s region listed in
      let wanted : List PlacedKey = wanted_by basis outer (given_by basis outer (linked_hosts basis region) region values) in
      rooted basis outer s region values wanted
      (focus_made basis outer s region of values admissible wanted (focus_wants_short basis outer s region of values admissible) (λ to has. has))
      (roots_of basis outer region values) (λ root has. has)

  pub small_host : HostsFocuses basis outer (small_focus basis outer)
  small_host = record {
    holds = λ at admissible. (
        let state : State = focus_state basis outer at.region at.values in
        let holds : HoldsFocus basis at.region at.values state = (states_host basis is limits outer row).holds at admissible in
        focus_left basis is (state ∷ []) (legal_one basis.schema.model state holds.legal) (roots_of basis outer at.region at.values) state (contains_head state []) at.region at.values
        (focus_rooted at.s at.region at.listed at.values admissible) holds);
  }

  pub small_rival : HostsRivals basis outer (small_rivals basis outer)
  small_rival = record {
    hold = λ few pair. (
        let both = rival_states basis outer pair.one pair.values pair.two pair.others in
        let c : State = both.0 in
        let d : State = both.1 in
        let hold : HoldRivals basis pair.one pair.two pair.values pair.others c d = (states_rival basis is limits outer row).hold few pair in
        let ones : List PlacedKey = roots_of basis outer pair.one pair.values in
        let twos : List PlacedKey = roots_of basis outer pair.two pair.others in
        let of : HasRegion basis outer pair.s pair.one = of_region pair.s pair.one pair.is_one in
        let of_two : HasRegion basis outer pair.s pair.two = of_region pair.s pair.two pair.is_two in
        let wanted : List PlacedKey = wanted_by_both basis outer pair.one pair.values pair.two pair.others in
        let legal = legal_both basis.schema.model c d hold.first.legal hold.second.legal in
        record {
          first = focus_left basis is (c ∷ (d ∷ [])) legal (ones ++ twos) c (contains_head c (d ∷ [])) pair.one pair.values
              (rooted basis outer pair.s pair.one pair.values wanted
              (one_made basis outer pair.s pair.one pair.two of of_two pair.linked pair.values pair.others pair.admissible pair.others_admissible pair.partners pair.keys) (ones ++ twos)
              (λ root has. Contains-append_left ones twos root has)) hold.first;
          second = focus_left basis is (c ∷ (d ∷ [])) legal (ones ++ twos) d (contains_tail c (d ∷ []) d (contains_head d [])) pair.two pair.others
              (rooted basis outer pair.s pair.two pair.others wanted
              (two_made basis outer pair.s pair.one pair.two of of_two pair.linked pair.values pair.others pair.admissible pair.others_admissible pair.partners pair.keys) (ones ++ twos)
              (λ root has. Contains-append_right ones twos root has)) hold.second;
          alike = differ_left basis is (c ∷ (d ∷ [])) legal (ones ++ twos) c d (contains_head c (d ∷ [])) (contains_tail c (d ∷ []) d (contains_head d [])) pair.one.set
              (key_of basis.schema.model (focus_entity basis pair.one pair.values)) hold.alike;
        });
  }

  pub small_leave : LeavesOut basis outer (small_leaving basis outer)
  small_leave = record {
    leave = λ few at single admissible. (
        let both = leaving_states basis outer at.region at.values in
        let c : State = both.0 in
        let d : State = both.1 in
        let leaves : LeavesFocusOut basis at.region at.values c d = (states_leave basis is limits outer row).leave few at single admissible in
        let roots : List PlacedKey = roots_of basis outer at.region at.values in
        let legal = legal_both basis.schema.model c d leaves.first.legal leaves.second in
        let there : Contains (c ∷ (d ∷ [])) d = contains_tail c (d ∷ []) d (contains_head d []) in
        record {
          first = focus_left basis is (c ∷ (d ∷ [])) legal roots c (contains_head c (d ∷ [])) at.region at.values
              (focus_rooted at.s at.region at.listed at.values admissible) leaves.first;
          second = part_legal basis is (c ∷ (d ∷ [])) legal roots d there;
          left_out = λ x has. leaves.left_out x (left_of basis is (c ∷ (d ∷ [])) legal roots d there at.region.set x has);
          alike = differ_left basis is (c ∷ (d ∷ [])) legal roots c d (contains_head c (d ∷ [])) there at.region.set
              (key_of basis.schema.model (focus_entity basis at.region at.values)) leaves.alike;
        });
  }
