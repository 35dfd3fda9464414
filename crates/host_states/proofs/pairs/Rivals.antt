-- Two states with entities of two regions of a set that have one key and the same partners differ in these entities alone.
use Rattle.std.proofs.Common.{◌≡◌, ◌⊎◌, ⊎_elim, inl, inr, ℕ, ◌<◌, ◌==◌, List, [], ◌∷◌, ◌++◌, map, filter, flat_map, AllPairs, Contains, Bool, true, false, not, if◌then◌else◌, refl, sym, ap, subst, ◌∙◌}
use Rattle.std.proofs.lemmas.List.Elements.{Contains-append_cases, Contains-append_left, Contains-append_right}
use Rattle.emc_base.proofs.Members.{contains_cons_cases, contains_tail}
use Rattle.round_trip.specs.Words.{SetId, AssocId, PropId, Value, EntityModel, Assoc, Entity, Link, State, key_of, key_props}
use Rattle.regions.specs.declared.region.Region.{Region}
use Rattle.regions.specs.Basis.{Basis, Host, partner_end}
use Rattle.regions.specs.Patterns.{Valuation}
use Rattle.regions.specs.Symbols.{is_linked}
use Rattle.regions.specs.region_laws.IsBasis.{IsBasis}
use Rattle.region_states.specs.defaults.Admissible.{IsAdmissible}
use Rattle.region_states.specs.Entities.{focus_entity}
use Rattle.host_states.specs.Hosting.{DifferAtMostAt, HaveFewPartners, HoldRivals}
use Rattle.population.specs.Given.{HasShortParts}
use Rattle.population.specs.Plain.{plain}
use Rattle.population.specs.declared.placed.PlacedKey.{PlacedKey}
use Rattle.population.specs.Support.{support}
use Rattle.population.specs.Supported.{given_in, keys_in, link_of, supported}
use Rattle.population.specs.declared.placed.Placed.{Placed}
use Rattle.population.specs.declared.placed.PlacedLink.{PlacedLink}
use Rattle.population.proofs.supporting.Ends.{from_given, given_from}
use Rattle.host_states.specs.FocusStates.{by_assoc, focus, given_by, link_to, linked_hosts, links_by, partner_of, rival_states, state_by, told_key, wanted_by, wanted_by_both}
use Rattle.host_states.proofs.pairs.Agreeing.{HaveSameKeys, support_agree}
use Rattle.host_states.proofs.pairs.Alike.{AreBut, IsAt, entity_to, hosted_to, joined_links_to}
use Rattle.host_states.proofs.focus.Focus.{HasRegion, IsMade, region_set, wanted_short}
use Rattle.host_states.proofs.focus.FocusHeld.{holds_focus}
use Rattle.host_states.proofs.focus.HostEnds.{is_linked_host, linked_is, linked_order}

-- the keys of given entities are told by the set and the key of the first
first_keys : (model : EntityModel) (u : SetId) (one other : Placed) (rest : List Placed) → one.set ≡ other.set → key_of model one.entity ≡ key_of model other.entity
    → map (key_of model) (given_in (one ∷ rest) u) ≡ map (key_of model) (given_in (other ∷ rest) u)
first_keys model u one other rest sets keys =
    let left : List Placed = filter (λ (placed : Placed). placed.set.index == u.index) rest in
    let tail : List (List Value) = map (key_of model) (map (λ (placed : Placed). placed.entity) left) in
    by one left (one.set.index == u.index) ∙ (λ i. if ((sets i).index == u.index) then (keys i ∷ tail) else tail) ∙ sym (by other left (other.set.index == u.index))
  where
    by : (first : Placed) (left : List Placed) (b : Bool) → map (key_of model) (map (λ (placed : Placed). placed.entity) (if b then (first ∷ left) else left))
        ≡ (if b then (key_of model first.entity ∷ map (key_of model) (map (λ (placed : Placed). placed.entity) left)) else map (key_of model) (map (λ (placed : Placed). placed.entity) left))
    by first left true = refl
    by first left false = refl

-- the hosted associations of which a region has a link are made
pub focus_made : (basis : Basis) (outer : ℕ) (s : SetId) (region : Region) → HasRegion basis outer s region → (values : Valuation) → IsAdmissible basis outer region values
    → (wanted : List PlacedKey) → ((to : PlacedKey) → Contains wanted to → HasShortParts basis.schema.model to.set to.key)
    → ((to : PlacedKey) → Contains (wanted_by basis outer (given_by basis outer (linked_hosts basis region) region values)) to → Contains wanted to)
    → IsMade basis outer s region values (linked_hosts basis region) wanted
focus_made basis outer s region of values admissible wanted short holds = record {
  of = of;
  admissible = admissible;
  each = linked_is basis of.is s region of.listed;
  order = linked_order basis of.is s region of.listed;
  short = short;
  holds = holds;
}

-- what they ask for is short
pub focus_wants_short : (basis : Basis) (outer : ℕ) (s : SetId) (region : Region) → HasRegion basis outer s region → (values : Valuation) → IsAdmissible basis outer region values
    → (to : PlacedKey) → Contains (wanted_by basis outer (given_by basis outer (linked_hosts basis region) region values)) to → HasShortParts basis.schema.model to.set to.key
focus_wants_short basis outer s region of values admissible =
    wanted_short basis outer s region of values admissible (linked_hosts basis region) (linked_is basis of.is s region of.listed) (linked_order basis of.is s region of.listed)

module _ (basis : Basis) (outer : ℕ) (s : SetId) (one two : Region) (of_one : HasRegion basis outer s one) (of_two : HasRegion basis outer s two) (linked : one.linked ≡ two.linked)
    (values others : Valuation) (admissible : IsAdmissible basis outer one values) (also : IsAdmissible basis outer two others) (parts : values.part ≡ others.part)
    (one_key : key_of basis.schema.model (focus_entity basis one values) ≡ key_of basis.schema.model (focus_entity basis two others)) where
  abbrev wanted : List PlacedKey
  wanted = wanted_by_both basis outer one values two others

  short : (to : PlacedKey) → Contains wanted to → HasShortParts basis.schema.model to.set to.key
  short to has = ⊎_elim
      (λ (first : Contains (wanted_by basis outer (given_by basis outer (linked_hosts basis one) one values)) to). focus_wants_short basis outer s one of_one values admissible to first)
      (λ (second : Contains (wanted_by basis outer (given_by basis outer (linked_hosts basis two) two others)) to). focus_wants_short basis outer s two of_two others also to second)
      (Contains-append_cases (wanted_by basis outer (given_by basis outer (linked_hosts basis one) one values)) (wanted_by basis outer (given_by basis outer (linked_hosts basis two) two others)) to has)

  pub one_made : IsMade basis outer s one values (linked_hosts basis one) wanted
  one_made = focus_made basis outer s one of_one values admissible wanted short (λ to has.
      Contains-append_left (wanted_by basis outer (given_by basis outer (linked_hosts basis one) one values)) (wanted_by basis outer (given_by basis outer (linked_hosts basis two) two others)) to has)

  pub two_made : IsMade basis outer s two others (linked_hosts basis two) wanted
  two_made = focus_made basis outer s two of_two others also wanted short (λ to has.
      Contains-append_right (wanted_by basis outer (given_by basis outer (linked_hosts basis one) one values)) (wanted_by basis outer (given_by basis outer (linked_hosts basis two) two others)) to has)

  same_set : one.set ≡ two.set
  same_set = region_set basis outer s one of_one ∙ sym (region_set basis outer s two of_two)

  same_hosts : linked_hosts basis one ≡ linked_hosts basis two
  same_hosts = λ i. filter (λ (host : Host). is_linked basis (linked i) host.assoc) (basis.hosts (same_set i))

  -- the partners are the same
  same_partners : flat_map (by_assoc basis (partner_of basis outer values)) (linked_hosts basis one) ≡ flat_map (by_assoc basis (partner_of basis outer others)) (linked_hosts basis two)
  same_partners =
      let partner : (AssocId → Bool → PropId → Value) → Host → Assoc → Placed = λ part host assoc. record {
        set = (partner_end host.first_hosts assoc).set;
        entity = plain basis.schema.model outer 0 (partner_end host.first_hosts assoc).ty
            (map (part host.assoc (not host.first_hosts)) (key_props basis.schema.model (partner_end host.first_hosts assoc).ty));
      } in
      λ i. flat_map (by_assoc basis (partner (parts i))) (same_hosts i)

  -- and so are the links
  same_links : links_by basis one values (linked_hosts basis one) ≡ links_by basis two others (linked_hosts basis two)
  same_links =
      let link : List Value → (AssocId → Bool → PropId → Value) → Host → Assoc → PlacedLink = λ key part host assoc. record {
        assoc = host.assoc;
        link = link_of host.first_hosts key (map (part host.assoc (not host.first_hosts)) (key_props basis.schema.model (partner_end host.first_hosts assoc).ty));
      } in
      λ i. flat_map (by_assoc basis (link (one_key i) (parts i))) (same_hosts i)

  abbrev given : List Placed
  given = given_by basis outer (linked_hosts basis one) one values

  abbrev more : List Placed
  more = given_by basis outer (linked_hosts basis two) two others

  -- the given entities have the same keys
  same_keys : HaveSameKeys basis.schema.model given more
  same_keys u =
      ap (λ rest. map (key_of basis.schema.model) (given_in (focus basis one values ∷ rest) u)) same_partners
      ∙ first_keys basis.schema.model u (focus basis one values) (focus basis two others) (flat_map (by_assoc basis (partner_of basis outer others)) (linked_hosts basis two)) same_set one_key

  abbrev keys : List PlacedKey
  keys = support basis.schema.model outer given wanted

  abbrev more_keys : List PlacedKey
  more_keys = support basis.schema.model outer more wanted

  same_support : keys ≡ more_keys
  same_support = support_agree basis.schema.model outer given more same_keys wanted

  abbrev key : List Value
  key = key_of basis.schema.model (focus_entity basis one values)

  abbrev links : List PlacedLink
  links = links_by basis one values (linked_hosts basis one)

  -- they are the same but at the key
  one_but : AreBut basis.schema.model s key given more keys more_keys
  one_but = record {
    given_to = λ u entity has. (let found = given_from given u entity has in ⊎_elim
        (λ (is : found.0 ≡ focus basis one values).
        inl (
          sym found.2 ∙ ap (λ (placed : Placed). placed.set) is ∙ region_set basis outer s one of_one,
          ap (key_of basis.schema.model) (sym found.3 ∙ ap (λ (placed : Placed). placed.entity) is),
        ))
        (λ (partner : Contains (flat_map (by_assoc basis (partner_of basis outer values)) (linked_hosts basis one)) found.0).
        let listed : Contains more found.0 = contains_tail (focus basis two others) (flat_map (by_assoc basis (partner_of basis outer others)) (linked_hosts basis two)) found.0
        (subst (λ list. Contains list found.0) same_partners partner) in
        let Of : SetId → Entity → Type 0 = λ v e. Contains (given_in more v) e in
        inr (subst (λ v. Of v entity) found.2 (subst (Of found.0.set) found.3 (from_given more found.0 listed))))
        (contains_cons_cases (focus basis one values) (flat_map (by_assoc basis (partner_of basis outer values)) (linked_hosts basis one)) found.0 found.1));
    keys_to = λ u k has. subst (λ list. Contains (keys_in list u) k) same_support has;
  }

  two_but : AreBut basis.schema.model s key more given more_keys keys
  two_but = record {
    given_to = λ u entity has. (let found = given_from more u entity has in ⊎_elim
        (λ (is : found.0 ≡ focus basis two others).
        inl (
          sym found.2 ∙ ap (λ (placed : Placed). placed.set) is ∙ region_set basis outer s two of_two,
          ap (key_of basis.schema.model) (sym found.3 ∙ ap (λ (placed : Placed). placed.entity) is) ∙ sym one_key,
        ))
        (λ (partner : Contains (flat_map (by_assoc basis (partner_of basis outer others)) (linked_hosts basis two)) found.0).
        let listed : Contains given found.0 = contains_tail (focus basis one values) (flat_map (by_assoc basis (partner_of basis outer values)) (linked_hosts basis one)) found.0
        (subst (λ list. Contains list found.0) (sym same_partners) partner) in
        let Of : SetId → Entity → Type 0 = λ v e. Contains (given_in given v) e in
        inr (subst (λ v. Of v entity) found.2 (subst (Of found.0.set) found.3 (from_given given found.0 listed))))
        (contains_cons_cases (focus basis two others) (flat_map (by_assoc basis (partner_of basis outer others)) (linked_hosts basis two)) found.0 found.1));
    keys_to = λ u k has. subst (λ list. Contains (keys_in list u) k) (sym same_support) has;
  }

  abbrev c : State
  c = state_by basis outer (linked_hosts basis one) wanted one values

  abbrev d : State
  d = state_by basis outer (linked_hosts basis two) wanted two others

  -- the second state by the links of the first
  d_is : supported basis.schema.model outer more more_keys links ≡ d
  d_is = ap (supported basis.schema.model outer more more_keys) same_links

  abbrev is : IsBasis basis
  is = of_one.is

  module _ (few : HaveFewPartners basis) where
    differ_by : DifferAtMostAt basis s key c (supported basis.schema.model outer more more_keys links)
    differ_by = record {
      entities = λ u entity elsewhere. (
        entity_to basis.schema.model outer s key given more keys more_keys one_but links u entity elsewhere,
        entity_to basis.schema.model outer s key more given more_keys keys two_but links u entity elsewhere,
      );
      hosted = λ u host hosts other elsewhere link. (
        hosted_to basis is few outer s key given more keys more_keys one_but links u host hosts other elsewhere link,
        hosted_to basis is few outer s key more given more_keys keys two_but links u host hosts other elsewhere link,
      );
      joined = λ t fragment assoc joined link. (
        joined_links_to basis is few outer s key given more keys more_keys one_but links t fragment assoc joined link,
        joined_links_to basis is few outer s key more given more_keys keys two_but links t fragment assoc joined link,
      );
    }

    pub rivals_hold : HoldRivals basis one two values others (rival_states basis outer one values two others).0 (rival_states basis outer one values two others).1
    rivals_hold = record {
      first = holds_focus basis outer s one values (linked_hosts basis one) wanted one_made (is_linked_host basis is s one of_one.listed);
      second = holds_focus basis outer s two others (linked_hosts basis two) wanted two_made (is_linked_host basis of_two.is s two of_two.listed);
      alike = subst (λ u. DifferAtMostAt basis u key c d) (sym (region_set basis outer s one of_one)) (subst (DifferAtMostAt basis s key c) d_is differ_by);
    }
