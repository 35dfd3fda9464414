-- The keys of an entity's partners: of a link that it hosts where there is one, else the usual ones. An entity that hosts few links has them.
use Rattle.std.proofs.Common.{◌≡◌, ⊎_elim, inl, inr, ◌==◌, List, [], ◌∷◌, find, slice_get, if◌then◌else◌, Bool, true, false, not, Contains, refl, sym, ap, subst, ◌∙◌, arith}
use Rattle.std.specs.Option.{option_map_or}
use Rattle.std.proofs.lemmas.List.Elements.{All-contains}
use Rattle.emc_base.proofs.Numbered.{filter_contains}
use Rattle.round_trip.specs.Words.{SetId, AssocId, PropId, Value, Null, Assoc, Entity, Link, Prop, State, At, HasAllowedNulls, HasProp, HasValuesInDomain, InDomain, entities_in, key_of, key_props, links_in, props_of, value_beside, value_of}
use Rattle.schema_laws.specs.state_demand.Selecting.{same_key}
use Rattle.schema_laws.proofs.state_demand.writings.Decisions.{so_or_not}
use Rattle.schema_laws.proofs.state_demand.lists.Lists.{head_stands, none_in_nil}
use Rattle.cells.specs.Limits.{IsWithinLimits}
use Rattle.regions.specs.Atoms.{Allows}
use Rattle.regions.specs.Basis.{Basis, Host, host_key, partner_end, partner_key}
use Rattle.regions.specs.Patterns.{by_entity, by_link}
use Rattle.regions.specs.Symbols.{is_linked}
use Rattle.regions.specs.region_laws.IsBasis.{IsBasis}
use Rattle.regions.specs.region_laws.Partners.{TellsPartner}
use Rattle.regions.specs.region_laws.RegionAt.{links_at}
use Rattle.schema_laws.proofs.state_demand.lists.Ids.{Decides-assoc}
use Rattle.regions.specs.region_laws.pattern.Allowed.{HasAllowedParts, IsAllowed}
use Rattle.regions.specs.region_laws.Held.{HeldEntity}
use Rattle.regions.proofs.region_laws.pattern.values.Allowed.{link_allowed}
use Rattle.regions.proofs.region_laws.pattern.symbols.Hosting.{one_host}
use Rattle.regions.proofs.region_laws.pattern.symbols.Origins.{linked_decided}
use Rattle.regions.proofs.region_laws.pattern.types.Regions.{parts_of}
use Rattle.regions.proofs.region_laws.pattern.Ends.{other_end}
use Rattle.region_states.proofs.focus.Flags.{unflagged}
use Rattle.region_states.specs.defaults.Defaults.{default_part}
use Rattle.region_states.proofs.defaults.Defaults.{default_admissible}
use Rattle.region_states.specs.conflicts.There.{HasFewLinks}
use Rattle.conflict_laws.proofs.clash.Found.{found_only}
use Rattle.conflict_laws.proofs.clash.Written.{HasToldLinks}

module _ (basis : Basis) (state : State) (s : SetId) (entity : Entity) where
  abbrev key : List Value
  key = key_of basis.schema.model entity

  -- the links of an association that the entity hosts
  abbrev hosted_of : AssocId → List Link
  hosted_of a = option_map_or (λ host. links_at state host key) (find (λ host. host.assoc.index == a.index) (basis.hosts s)) []

  -- a part of a key at an end of the first of these links, or the usual one where there is none
  abbrev part_or : AssocId → Bool → PropId → List Link → Value
  part_or a first p [] = default_part basis 0 a first p
  part_or a first p (link ∷ links) = option_map_or (λ assoc. (by_link basis.schema.model assoc link).part a first p) (slice_get basis.schema.model.assocs a.index) Null

  abbrev pub told_part : AssocId → Bool → PropId → Value
  told_part a first p = part_or a first p (hosted_of a)

  module _ (is : IsBasis basis) (host : Host) (hosts : Contains (basis.hosts s) host) where
    abbrev links : List Link
    links = links_at state host key

    -- these are the links of its host
    hosted_are : hosted_of host.assoc ≡ links
    hosted_are = ap (λ found. option_map_or (λ (one : Host). links_at state one key) found [])
        (found_only (λ (one : Host). one.assoc.index == host.assoc.index) (basis.hosts s) host hosts ((Decides-assoc host.assoc host.assoc).1 refl)
        (λ other has passes. one_host basis is s other host has hosts ((Decides-assoc other.assoc host.assoc).0 passes)))

    -- without a link it is the usual one
    usual_told : links ≡ [] → (first : Bool) (p : PropId) → told_part host.assoc first p ≡ default_part basis 0 host.assoc first p
    usual_told none first p = ap (part_or host.assoc first p) (hosted_are ∙ none)

    -- with one it is the link's
    link_told : (link : Link) (rest : List Link) → links ≡ link ∷ rest → (assoc : Assoc) → At basis.schema.model.assocs host.assoc.index assoc → (first : Bool) (p : PropId)
        → told_part host.assoc first p ≡ (by_link basis.schema.model assoc link).part host.assoc first p
    link_told link rest some assoc here first p =
        ap (part_or host.assoc first p) (hosted_are ∙ some)
        ∙ ap (λ found. option_map_or (λ (one : Assoc). (by_link basis.schema.model one link).part host.assoc first p) found Null) here

    -- the parts are those of the partner of each link that the entity hosts, where it hosts few
    tells_partner : HasFewLinks basis state s entity → (link : Link) → Contains links link → TellsPartner basis host link told_part
    tells_partner few link has assoc here p among = by links refl
      where
        of_link : (first_hosts : Bool) → (by_link basis.schema.model assoc link).part host.assoc (if first_hosts then false else true) p
            ≡ value_beside p (key_props basis.schema.model (partner_end first_hosts assoc).ty) (partner_key first_hosts link)
        of_link true = refl
        of_link false = refl

        by : (found : List Link) → links ≡ found → told_part host.assoc (if host.first_hosts then false else true) p
            ≡ value_beside p (key_props basis.schema.model (partner_end host.first_hosts assoc).ty) (partner_key host.first_hosts link)
        by [] none = absurd (none_in_nil link (subst (λ list. Contains list link) none has))
        by (first ∷ rest) some =
            let same : link ≡ first = few host hosts link first has (subst (λ list. Contains list first) (sym some) (head_stands first rest)) in
            let there : links ≡ link ∷ rest = some ∙ (λ k. sym same k ∷ rest) in
            link_told link rest there assoc here (if host.first_hosts then false else true) p ∙ of_link host.first_hosts

module _ (basis : Basis) (is : IsBasis basis) (limits : IsWithinLimits basis.schema) (held : HeldEntity basis) where
  abbrev part : AssocId → Bool → PropId → Value
  part = told_part basis held.state held.s held.entity

  -- each link that the entity hosts is flagged, and to the partner that is told
  pub told_links : HasFewLinks basis held.state held.s held.entity → HasToldLinks basis held.state held.s held.entity held.region (told_part basis held.state held.s held.entity)
  told_links few = record {
    flagged = λ host hosts link has. ⊎_elim
        (λ (linked : Contains held.region.linked host.assoc). linked)
        (λ (not_linked : ¬ Contains held.region.linked host.assoc).
        absurd (none_in_nil link (subst (λ list. Contains list link) (unflagged basis is held host hosts not_linked) has)))
        (so_or_not (is_linked basis held.region.linked host.assoc) (linked_decided basis held.region.linked host.assoc));
    told = λ host hosts link has. tells_partner basis held.state held.s held.entity is host hosts few link has;
  }

  module _ (host : Host) (assoc : Assoc) (is_host : Contains (basis.hosts held.region.set) host) (linked : Contains held.region.linked host.assoc)
      (here : At basis.schema.model.assocs host.assoc.index assoc) where
    abbrev links_here : List Link
    links_here = links_at held.state host (key_of basis.schema.model held.entity)

    -- the host is one of the set's
    hosts_here : Contains (basis.hosts held.s) host
    hosts_here = subst (λ u. Contains (basis.hosts u) host) (parts_of basis held.s held.region held.of_region.listed).of_set is_host

    -- the parts of a partner's key are in their domains
    part_allowed : HasAllowedParts basis.schema.model (partner_end host.first_hosts assoc) (part host.assoc (not host.first_hosts))
    part_allowed p declared key is_declared = by links_here refl
      where
        by : (found : List Link) → links_here ≡ found → InDomain (part host.assoc (not host.first_hosts) p) declared.kind
        by [] none =
            let P : Value → Type 0 = λ value. InDomain value declared.kind in
            subst P (sym (usual_told basis held.state held.s held.entity is host hosts_here none (not host.first_hosts) p))
            ((default_admissible basis is limits held.s held.region held.of_region.listed 0 (omega arith)).allowed.parts host assoc is_host linked here p declared key is_declared)
        by (link ∷ rest) some =
            let at_key = λ (one : Link). same_key (host_key host.first_hosts one) (key_of basis.schema.model held.entity) in
            let stands = (filter_contains at_key (links_in held.state host.assoc) link (subst (λ list. Contains list link) (sym some) (head_stands link rest))).0 in
            let E : _ → Type 0 = λ end. Contains (key_props basis.schema.model end.ty) p in
            let P : Value → Type 0 = λ value. InDomain value declared.kind in
            subst P (sym (link_told basis held.state held.s held.entity is host hosts_here link rest some assoc here (not host.first_hosts) p))
            ((link_allowed basis is
            (record { state = held.state; legal = held.legal; a = host.assoc; assoc = assoc; is_assoc = here; link = link; stands = stands })).parts assoc here (not host.first_hosts) p declared
            (subst E (sym (other_end host.first_hosts assoc)) key) is_declared)

  -- each property of the type allows the entity's value
  prop_allows : (p : PropId) (declared : Prop) → Contains (props_of basis.schema.model held.region.ty) p → At basis.schema.model.props p.index declared
      → Allows declared (value_of basis.schema.model held.entity p)
  prop_allows p declared among is_declared =
      let parts = parts_of basis held.s held.region held.of_region.listed in
      let legal_set = held.legal.sets held.s parts.set parts.is_set in
      let has : HasProp basis.schema.model held.entity p declared = record {
        among = subst (λ t. Contains (props_of basis.schema.model t) p) (sym held.of_region.holds.typed) among;
        is_declared = is_declared;
      } in
      ⊎_elim
      (λ (null : value_of basis.schema.model held.entity p ≡ Null).
      inl (null, All-contains (HasAllowedNulls basis.schema.model) (entities_in held.state held.s) held.entity legal_set.nulls held.of_region.stands p declared has null))
      (λ (domain : InDomain (value_of basis.schema.model held.entity p) declared.kind). inr domain)
      (All-contains (HasValuesInDomain basis.schema.model) (entities_in held.state held.s) held.entity legal_set.domains held.of_region.stands p declared has)

  -- the values of the entity and of these keys are allowed
  pub told_allowed : IsAllowed basis held.region (by_entity basis.schema.model held.entity (told_part basis held.state held.s held.entity))
  told_allowed = record { atoms = held.of_region.holds.atoms; props = prop_allows; parts = part_allowed }
