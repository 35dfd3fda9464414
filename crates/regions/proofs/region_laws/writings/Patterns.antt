-- What an entity with its hosted links writes, or a link, is what its pattern says.
use Rattle.std.proofs.Common.{◌≡◌, ⊎_elim, inl, inr, List, [], ◌∷◌, map, filter, flat_map, All, Contains, Option, Bool, true, false, true≢false, ◌==◌, ◌&&◌, Decides, IsTrue, if◌then◌else◌, refl, sym, ap, subst, ◌∙◌}
use Rattle.std.specs.List.{AllZip, list_any}
use Rattle.std.specs.Option.{option_map_or}
use Rattle.std.proofs.lemmas.Bool.{and_parts}
use Rattle.std.proofs.lemmas.Bool.Decides.{Decides-eqb, Decides-like, not_from_Decides}
use Rattle.std.proofs.lemmas.List.Elements.{Contains-append_cases, Contains-append_left, Contains-append_right}
use Rattle.emc_base.proofs.Lists.{all_from_members, only_member, only_stands}
use Rattle.emc_base.proofs.Mapped.{contains_filter, contains_map}
use Rattle.emc_base.proofs.Numbered.{filter_contains, map_contains}
use Rattle.round_trip.specs.Words.{SetId, TypeId, PropId, AssocId, Value, Assoc, Fragment, LinkFragment, Pair, Entity, Link, Mult, State, Writing, Selects, At, IsA, entities_in, key_of, key_props, links_in, value_beside, value_of}
use Rattle.round_trip.specs.soundness.mappings.Fragments.{WritesEndKey}
use Rattle.round_trip.proofs.Lookups.{assoc_of}
use Rattle.schema_laws.specs.state_demand.MadeTables.{given_cells}
use Rattle.schema_laws.specs.state_demand.Selecting.{same_key}
use Rattle.schema_laws.specs.state_demand.Writings.{entity_writing, link_writing}
use Rattle.schema_laws.proofs.state_demand.lists.Lists.{Decides-any, any_of, contains_flat_map, head_stands, member_cases, member_of_flat_map, none_in_nil, of_any, tail_stands}
use Rattle.schema_laws.proofs.state_demand.owners.Owners.{beside_map}
use Rattle.schema_laws.proofs.state_demand.writings.Selecting.{Decides-key}
use Rattle.schema_laws.proofs.sound_demand.Fitting.{sound_link}
use Rattle.schema_laws.proofs.sound_demand.Keys.{inherits_keys}
use Rattle.schema_laws.proofs.sound_demand.owners.Pairing.{written_part}
use Rattle.regions.specs.declared.region.Region.{Region}
use Rattle.regions.specs.Basis.{Basis, Host, host_end, host_key, partner_end, partner_key}
use Rattle.regions.specs.Regions.{flag_values, flagged, flags_at, model_of, regions_of}
use Rattle.regions.specs.Symbols.{SymbolWriting, fragment_writing, fragments_of, host_writings, is_linked, link_fragment_writing, link_fragments_of, link_writings, region_writings, selects_region}
use Rattle.regions.specs.Patterns.{Valuation, by_entity, by_link}
use Rattle.regions.specs.region_laws.Concrete.{AreConcrete, IsConcrete, IsWritingAt, IsWritingOfLink, TellsEnd, WritesEntity, WritesHosted, concrete}
use Rattle.regions.specs.region_laws.IsBasis.{IsBasis}
use Rattle.regions.specs.region_laws.Partners.{TellsPartner}
use Rattle.regions.specs.region_laws.RegionAt.{links_at}
use Rattle.regions.proofs.region_laws.lists.Choices.{choice_each}
use Rattle.regions.proofs.region_laws.writings.Concrete.{entity_concrete, link_concrete}
use Rattle.regions.proofs.region_laws.entities.Flags.{Decides-flagged, IsFlag, flag_member, one_host}
use Rattle.regions.proofs.region_laws.listing.Listed.{IsListed, is_listed, set_is}
use Rattle.regions.proofs.region_laws.entities.Selected.{Decides-selected}
use Rattle.regions.specs.region_laws.Held.{IsHeldAt}
use Rattle.schema_laws.proofs.state_demand.lists.Ids.{Decides-assoc}

-- the pairs at the end that hosts, where it is the first, and at the other
abbrev pub pairs_at : Bool → LinkFragment → List Pair
pairs_at b fragment = if b then fragment.first else fragment.second

abbrev pub pairs_beyond : Bool → LinkFragment → List Pair
pairs_beyond b fragment = if b then fragment.second else fragment.first

pub Decides-linked : (linked : List AssocId) (a : AssocId) → Decides (list_any (λ one. one.index == a.index) linked) (Contains linked a)
Decides-linked linked a = Decides-like (list_any (λ one. one.index == a.index) linked)
    (λ any. let found = of_any (λ (one : AssocId). one ≡ a) linked any in subst (Contains linked) found.2 found.1)
    (λ has. any_of (λ (one : AssocId). one ≡ a) linked a has refl)
    (Decides-any (λ (one : AssocId). one.index == a.index) (λ (one : AssocId). one ≡ a) (λ one. Decides-assoc one a) linked)

may_true : (may : Bool) (mult : Mult) → Contains (flag_values may mult) true → may ≡ true
may_true true mult has = refl
may_true false mult has = ⊎_elim
    (λ (here : true ≡ false). absurd (true≢false here))
    (λ (none : Contains [] true). absurd (none_in_nil true none))
    (member_cases false [] true has)

module _ (basis : Basis) (is : IsBasis basis) where
  -- who may have a true flag is of the type of the end that hosts
  may_by : (t : TypeId) (host : Host) (flag : List AssocId) → IsFlag basis t host flag → Contains flag host.assoc → (assoc : Assoc)
      → At (model_of basis).assocs host.assoc.index assoc → IsTrue (basis.is_a t (host_end host.first_hosts assoc).ty)
  may_by t host flag is_flag has assoc here =
      let may : Bool = basis.is_a t (host_end host.first_hosts assoc).ty in
      let mult : Mult = (partner_end host.first_hosts assoc).mult in
      let P : Option Assoc → Type 0 = λ found. Contains (option_map_or (λ one. map (flagged host.assoc)
      (flag_values (basis.is_a t (host_end host.first_hosts one).ty) (partner_end host.first_hosts one).mult)) found ([] ∷ [])) flag in
      let there : Contains (map (flagged host.assoc) (flag_values may mult)) flag = subst P here is_flag in
      let found = map_contains (flagged host.assoc) (flag_values may mult) flag there in
      let bit : found.0 ≡ true = (Decides-flagged host.assoc found.0).1 (subst (λ xs. Contains xs host.assoc) (sym found.2) has) in
      may_true may mult (subst (Contains (flag_values may mult)) bit found.1)

  flag_among : (t : TypeId) (hosts : List Host) (flags : List (List AssocId)) → AllZip (IsFlag basis t) hosts flags → (a : AssocId) → Contains (flat_map (λ flag. flag) flags) a
      → (host : Host) × (flag : List AssocId) × Contains hosts host × IsFlag basis t host flag × Contains flag a
  flag_among t [] [] zipped a has = absurd (none_in_nil a has)
  flag_among t [] (flag ∷ flags) zipped a has = absurd zipped
  flag_among t (host ∷ hosts) [] zipped a has = absurd zipped
  flag_among t (host ∷ hosts) (flag ∷ flags) zipped a has = ⊎_elim
      (λ (here : Contains flag a). (host, flag, head_stands host hosts, zipped.0, here))
      (λ (later : Contains (flat_map (λ one. one) flags) a).
      let found = flag_among t hosts flags zipped.1 a later in (found.0, found.1, tail_stands host hosts found.0 found.2, found.3, found.4))
      (Contains-append_cases flag (flat_map (λ one. one) flags) a has)

  pub may_host : (s : SetId) (region : Region) → Contains (regions_of basis s) region → (host : Host) → Contains (basis.hosts s) host → Contains region.linked host.assoc
      → (assoc : Assoc) → At (model_of basis).assocs host.assoc.index assoc → IsTrue (basis.is_a region.ty (host_end host.first_hosts assoc).ty)
  may_host s region among host hosts linked assoc here =
      let by : IsListed basis s region = is_listed basis s region among in
      let has : Contains (flat_map (λ flag. flag) by.flags) host.assoc = subst (λ (r : Region). Contains r.linked host.assoc) by.is linked in
      let found = flag_among by.ty (basis.hosts s) by.flags (choice_each (flags_at basis by.ty) (basis.hosts s) by.flags by.are_flags) host.assoc has in
      let named : host.assoc ≡ found.0.assoc = flag_member basis by.ty found.0 found.1 found.3 host.assoc found.4 in
      let same : found.0 ≡ host = one_host (basis.hosts s) (is.order s) found.0 host found.2 hosts (sym named) in
      let typed : by.ty ≡ region.ty = sym (ap (λ (r : Region). r.ty) by.is) in
      subst (λ t. IsTrue (basis.is_a t (host_end host.first_hosts assoc).ty)) typed
      (may_by by.ty host found.1 (subst (λ one. IsFlag basis by.ty one found.1) same found.3) found.4 assoc here)

  -- the two ends of a link, by which of them hosts
  module _ (fragment : LinkFragment) (assoc : Assoc) (link : Link) (valuation : Valuation) where
    abbrev TellsOwn : Bool → Pair → Type 0
    TellsOwn b pair = valuation.prop pair.prop ≡ value_beside pair.prop (key_props (model_of basis) (host_end b assoc).ty) (host_key b link)

    abbrev TellsOther : Bool → Pair → Type 0
    TellsOther b pair = valuation.part fragment.assoc (if b then false else true) pair.prop
        ≡ value_beside pair.prop (key_props (model_of basis) (partner_end b assoc).ty) (partner_key b link)

    ends_told : (b : Bool) → All (TellsOwn b) (pairs_at b fragment) → All (TellsOther b) (pairs_beyond b fragment)
        → TellsEnd (model_of basis) valuation fragment.assoc true b assoc.first.ty fragment.first link.first
        × TellsEnd (model_of basis) valuation fragment.assoc false (if b then false else true) assoc.second.ty fragment.second link.second
    ends_told true own other = (own, other)
    ends_told false own other = (other, own)

    keyed : (b : Bool) → WritesEndKey (model_of basis) assoc.first.ty fragment.first → WritesEndKey (model_of basis) assoc.second.ty fragment.second
        → WritesEndKey (model_of basis) (host_end b assoc).ty (pairs_at b fragment)
    keyed true first second = first
    keyed false first second = second

    keyed_beyond : (b : Bool) → WritesEndKey (model_of basis) assoc.first.ty fragment.first → WritesEndKey (model_of basis) assoc.second.ty fragment.second
        → WritesEndKey (model_of basis) (partner_end b assoc).ty (pairs_beyond b fragment)
    keyed_beyond true first second = second
    keyed_beyond false first second = first

  module _ (state : State) (s : SetId) (entity : Entity) (region : Region) (part : AssocId → Bool → PropId → Value) (held : IsHeldAt basis state s entity region part) where
    abbrev told_by : Valuation
    told_by = by_entity (model_of basis) entity part

    abbrev key : List Value
    key = key_of (model_of basis) entity

    of_set : region.set ≡ s
    of_set = set_is basis s region held.listed

    selected : (fragment : Fragment) → Contains basis.schema.mapping.fragments fragment → Decides (selects_region basis region fragment) (Selects
        (model_of basis) fragment entity)
    selected fragment mapped = Decides-selected basis is fragment mapped
        (record { s = s; region = region; entity = entity; links = held.links; listed = held.listed; holds = held.holds })

    abbrev own_writings : List SymbolWriting
    own_writings = map fragment_writing (fragments_of basis region)

    abbrev linked_hosts : List Host
    linked_hosts = filter (λ host. is_linked basis region.linked host.assoc) (basis.hosts region.set)

    abbrev hosted_writings : List SymbolWriting
    hosted_writings = flat_map (host_writings basis) linked_hosts

    abbrev is_of_region : Fragment → Bool
    is_of_region fragment = (fragment.set.index == region.set.index) && selects_region basis region fragment

    entity_listed : (writing : Writing) → WritesEntity basis state s entity writing
        → (one : SymbolWriting) × Contains (region_writings basis region) one × IsConcrete told_by one writing
    entity_listed writing by =
        let fragment : Fragment = by.fragment in
        let same_set : (fragment.set.index == region.set.index) ≡ true = (Decides-eqb fragment.set.index region.set.index).1 (ap
        (λ (one : SetId). one.index) (by.of_set ∙ sym of_set)) in
        let selects : selects_region basis region fragment ≡ true = (selected fragment by.writes.mapped).1 by.writes.selected in (
          fragment_writing fragment,
          Contains-append_left own_writings hosted_writings (fragment_writing fragment)
              (contains_map fragment_writing (fragments_of basis region) fragment
              (contains_filter is_of_region basis.schema.mapping.fragments fragment by.writes.mapped (λ k. same_set k && selects k))),
          record { table = ap (λ (one : Writing). one.table) by.is; cells = ap given_cells by.is ∙ entity_concrete (model_of basis) fragment entity part },
        )

    entity_written : (one : SymbolWriting) → Contains own_writings one → (writing : Writing) × IsWritingAt basis state s entity writing × IsConcrete told_by one writing
    entity_written one has =
        let found = map_contains fragment_writing (fragments_of basis region) one has in
        let fragment : Fragment = found.0 in
        let kept = filter_contains is_of_region basis.schema.mapping.fragments fragment found.1 in
        let parts = and_parts (fragment.set.index == region.set.index) (selects_region basis region fragment) kept.1 in
        let number = (Decides-eqb fragment.set.index region.set.index).0 parts.0 in
        let alike : fragment.set ≡ region.set = λ k. record { index = number k } in
        let same_set : fragment.set ≡ s = alike ∙ of_set in
        let writing : Writing = entity_writing (model_of basis) fragment entity in
        let concrete_one : IsConcrete told_by (fragment_writing fragment) writing = record { table = refl; cells = entity_concrete (model_of basis) fragment entity part } in (
          writing,
          inl (record {
            fragment = fragment;
            of_set = same_set;
            writes = record {
              mapped = kept.0;
              stands = subst (λ u. Contains (entities_in state u) entity) (sym same_set) held.stands;
              selected = (selected fragment kept.0).0 parts.1;
            };
            is = refl;
          }),
          subst (λ w. IsConcrete told_by w writing) found.2 concrete_one,
        )

    -- what a hosted link writes
    module _ (host : Host) (hosts : Contains (basis.hosts s) host) (linked : Contains region.linked host.assoc) (fragment : LinkFragment)
        (mapped : Contains basis.schema.mapping.links fragment) (of_assoc : fragment.assoc ≡ host.assoc) (assoc : Assoc)
        (here : At (model_of basis).assocs fragment.assoc.index assoc) (link : Link) (at_key : host_key host.first_hosts link ≡ key)
        (told : TellsPartner basis host link part) where
      at_host : At (model_of basis).assocs host.assoc.index assoc
      at_host = let P : AssocId → Type 0 = λ a. At (model_of basis).assocs a.index assoc in subst P of_assoc here

      own_told : All (TellsOwn fragment assoc link told_by host.first_hosts) (pairs_at host.first_hosts fragment)
      own_told = all_from_members (TellsOwn fragment assoc link told_by host.first_hosts) (pairs_at host.first_hosts fragment) (λ pair has.
          let end : TypeId = (host_end host.first_hosts assoc).ty in
          let sound = sound_link basis.schema is.sound fragment mapped assoc here in
          let writes : WritesEndKey (model_of basis) end (pairs_at host.first_hosts fragment) = keyed fragment assoc link told_by host.first_hosts sound.first sound.second in
          let under : IsA (model_of basis) entity.ty end =
          (is.types.tells entity.ty end).0 (subst (λ t. IsTrue (basis.is_a t end)) (sym held.holds.typed) (may_host s region held.listed host hosts linked assoc at_host)) in
          let keys : key_props (model_of basis) entity.ty ≡ key_props (model_of basis) end = (inherits_keys (model_of basis) is.sound.model).same entity.ty end under in
          let in_key : Contains (key_props (model_of basis) end) pair.prop =
          written_part basis.schema is.sound end (pairs_at host.first_hosts fragment) writes pair has in
          let in_own : Contains (key_props (model_of basis) entity.ty) pair.prop = subst (λ props. Contains props pair.prop) (sym keys) in_key in
          sym (ap (value_beside pair.prop (key_props (model_of basis) end)) at_key
          ∙ ap (λ props. value_beside pair.prop props key) (sym keys)
          ∙ beside_map (value_of (model_of basis) entity) (key_props (model_of basis) entity.ty) pair.prop in_own))

      other_told : All (TellsOther fragment assoc link told_by host.first_hosts) (pairs_beyond host.first_hosts fragment)
      other_told = all_from_members (TellsOther fragment assoc link told_by host.first_hosts) (pairs_beyond host.first_hosts fragment) (λ pair has.
          let end : TypeId = (partner_end host.first_hosts assoc).ty in
          let sound = sound_link basis.schema is.sound fragment mapped assoc here in
          let writes : WritesEndKey (model_of basis) end (pairs_beyond host.first_hosts fragment) =
          keyed_beyond fragment assoc link told_by host.first_hosts sound.first sound.second in
          ap (λ a. part a (if host.first_hosts then false else true) pair.prop) of_assoc
          ∙ told assoc at_host pair.prop (written_part basis.schema is.sound end (pairs_beyond host.first_hosts fragment) writes pair has))

      hosted_concrete : given_cells (link_writing (model_of basis) fragment assoc link)
          ≡ concrete told_by (link_fragment_writing host.first_hosts (if host.first_hosts then false else true) fragment).cells
      hosted_concrete =
          let both = ends_told fragment assoc link told_by host.first_hosts own_told other_told in
          link_concrete (model_of basis) fragment assoc link told_by host.first_hosts (if host.first_hosts then false else true) both.0 both.1

      hosted_is : IsConcrete told_by (link_fragment_writing host.first_hosts (if host.first_hosts then false else true) fragment) (link_writing
          (model_of basis) fragment assoc link)
      hosted_is = record { table = refl; cells = hosted_concrete }

    abbrev at_entity : Host → Link → Bool
    at_entity host link = same_key (host_key host.first_hosts link) key

    hosted_listed : (writing : Writing) → WritesHosted basis state s entity writing
        → (one : SymbolWriting) × Contains (region_writings basis region) one × IsConcrete told_by one writing
    hosted_listed writing by = go (is_linked basis region.linked by.host.assoc) refl
      where
        here : Contains (links_at state by.host key) by.link
        here = contains_filter (at_entity by.host) (links_in state by.host.assoc) by.link (subst (λ a. Contains (links_in state a) by.link) by.of_assoc by.writes.stands)
            ((Decides-key (host_key by.host.first_hosts by.link) key).1 by.at_key)

        as_symbols : LinkFragment → SymbolWriting
        as_symbols fragment = link_fragment_writing by.host.first_hosts (if by.host.first_hosts then false else true) fragment

        go : (b : Bool) → is_linked basis region.linked by.host.assoc ≡ b
            → (one : SymbolWriting) × Contains (region_writings basis region) one × IsConcrete told_by one writing
        go false not_linked =
            let none = not_from_Decides (is_linked basis region.linked by.host.assoc) (Decides-linked region.linked by.host.assoc) not_linked in
            absurd (none_in_nil by.link (subst (λ xs. Contains xs by.link) (held.partners.none by.host by.hosts none) here))
        go true linked =
            let has : Contains region.linked by.host.assoc = (Decides-linked region.linked by.host.assoc).0 linked in
            let found = held.partners.one by.host by.hosts has in
            let same : by.link ≡ found.0 = only_member (links_at state by.host key) found.0 by.link found.1 here in
            let told : TellsPartner basis by.host by.link part = subst (λ link. TellsPartner basis by.host link part) (sym same) found.2 in
            let fragment : LinkFragment = by.fragment in
            let of_fragment : (fragment.assoc.index == by.host.assoc.index) ≡ true = (Decides-assoc fragment.assoc by.host.assoc).1 by.of_assoc in
            let host_there : Contains (basis.hosts region.set) by.host = subst (λ u. Contains (basis.hosts u) by.host) (sym of_set) by.hosts in
            let table : writing.table ≡ fragment.table = ap (λ (one : Writing). one.table) by.is in
            let cells = ap given_cells by.is
            ∙ hosted_concrete by.host by.hosts has fragment by.writes.mapped by.of_assoc by.assoc by.writes.is_assoc by.link by.at_key told in (
              link_fragment_writing by.host.first_hosts (if by.host.first_hosts then false else true) fragment,
              Contains-append_right own_writings hosted_writings (link_fragment_writing by.host.first_hosts (if by.host.first_hosts then false else true) fragment)
                  (contains_flat_map (host_writings basis) linked_hosts by.host (link_fragment_writing by.host.first_hosts
                  (if by.host.first_hosts then false else true) fragment)
                  (contains_filter (λ (one : Host). is_linked basis region.linked one.assoc) (basis.hosts region.set) by.host host_there linked)
                  (contains_map (link_fragment_writing by.host.first_hosts (if by.host.first_hosts then false else true)) (link_fragments_of basis by.host.assoc) fragment
                  (contains_filter (λ (one : LinkFragment). one.assoc.index == by.host.assoc.index) basis.schema.mapping.links fragment by.writes.mapped of_fragment))),
              record { table = table; cells = cells },
            )

    hosted_written : (one : SymbolWriting) → Contains hosted_writings one → (writing : Writing) × IsWritingAt basis state s entity writing × IsConcrete told_by one writing
    hosted_written one has =
        let by_host = member_of_flat_map (host_writings basis) linked_hosts one has in
        let host : Host = by_host.0 in
        let kept = filter_contains (λ (one : Host). is_linked basis region.linked one.assoc) (basis.hosts region.set) host by_host.1 in
        let hosts : Contains (basis.hosts s) host = subst (λ u. Contains (basis.hosts u) host) of_set kept.0 in
        let linked : Contains region.linked host.assoc = (Decides-linked region.linked host.assoc).0 kept.1 in
        let as_symbols : LinkFragment → SymbolWriting = link_fragment_writing host.first_hosts (if host.first_hosts then false else true) in
        let by_fragment = map_contains as_symbols (link_fragments_of basis host.assoc) one by_host.2 in
        let fragment : LinkFragment = by_fragment.0 in
        let mapped = filter_contains (λ (one : LinkFragment). one.assoc.index == host.assoc.index) basis.schema.mapping.links fragment by_fragment.1 in
        let of_assoc : fragment.assoc ≡ host.assoc = (Decides-assoc fragment.assoc host.assoc).0 mapped.1 in
        let assoc = assoc_of basis.schema is.sound fragment mapped.0 in
        let found = held.partners.one host hosts linked in
        let link : Link = found.0 in
        let there = filter_contains (at_entity host) (links_in state host.assoc) link (only_stands (links_at state host key) link found.1) in
        let at_key : host_key host.first_hosts link ≡ key = (Decides-key (host_key host.first_hosts link) key).0 there.1 in
        let writing : Writing = link_writing (model_of basis) fragment assoc.0 link in
        let concrete_one : IsConcrete told_by (as_symbols fragment) writing = hosted_is host hosts linked fragment mapped.0 of_assoc assoc.0 assoc.1 link at_key found.2 in (
          writing,
          inr (record {
            host = host;
            fragment = fragment;
            assoc = assoc.0;
            link = link;
            hosts = hosts;
            of_assoc = of_assoc;
            writes = record { mapped = mapped.0; is_assoc = assoc.1; stands = subst (λ a. Contains (links_in state a) link) (sym of_assoc) there.0 };
            at_key = at_key;
            is = refl {a = writing};
          }),
          subst (λ w. IsConcrete told_by w writing) by_fragment.2 concrete_one,
        )

    -- the writings of the region in symbols are those of the entity
    pub region_pattern : AreConcrete told_by (region_writings basis region) (IsWritingAt basis state s entity)
    region_pattern = record {
      listed = λ writing by. ⊎_elim (entity_listed writing) (hosted_listed writing) by;
      written = λ one has. ⊎_elim (entity_written one) (hosted_written one) (Contains-append_cases own_writings hosted_writings one has);
    }

-- the writings of an association in symbols are those of the link
module _ (basis : Basis) (state : State) (a : AssocId) (assoc : Assoc) (here : At (model_of basis).assocs a.index assoc) (link : Link) (stands : Contains
    (links_in state a) link) where
  abbrev told_by_link : Valuation
  told_by_link = by_link (model_of basis) assoc link

  fragment_concrete : (fragment : LinkFragment) → given_cells (link_writing (model_of basis) fragment assoc link) ≡ concrete told_by_link
      (link_fragment_writing false false fragment).cells
  fragment_concrete fragment =
      let First : Pair → Type 0 = λ pair. value_beside pair.prop (key_props (model_of basis) assoc.first.ty) link.first ≡ value_beside pair.prop (key_props
      (model_of basis) assoc.first.ty) link.first in
      let Second : Pair → Type 0 = λ pair. value_beside pair.prop (key_props (model_of basis) assoc.second.ty) link.second ≡ value_beside pair.prop (key_props
      (model_of basis) assoc.second.ty) link.second in
      link_concrete (model_of basis) fragment assoc link told_by_link false false
      (all_from_members First fragment.first (λ pair has. refl)) (all_from_members Second fragment.second (λ pair has. refl))

  pub link_pattern : AreConcrete told_by_link (link_writings basis a) (IsWritingOfLink basis state a assoc link)
  link_pattern = record {
    listed = λ writing by. (
      link_fragment_writing false false by.fragment,
      contains_map (link_fragment_writing false false) (link_fragments_of basis a) by.fragment
          (contains_filter (λ (one : LinkFragment). one.assoc.index == a.index) basis.schema.mapping.links by.fragment by.writes.mapped
          ((Decides-assoc by.fragment.assoc a).1 by.of_assoc)),
      record { table = ap (λ (one : Writing). one.table) by.is; cells = ap given_cells by.is ∙ fragment_concrete by.fragment },
    );
    written = λ one has. (
        let found = map_contains (link_fragment_writing false false) (link_fragments_of basis a) one has in
        let fragment : LinkFragment = found.0 in
        let mapped = filter_contains (λ (one : LinkFragment). one.assoc.index == a.index) basis.schema.mapping.links fragment found.1 in
        let of_assoc : fragment.assoc ≡ a = (Decides-assoc fragment.assoc a).0 mapped.1 in
        let writing : Writing = link_writing (model_of basis) fragment assoc link in
        let concrete_one : IsConcrete told_by_link (link_fragment_writing false false fragment) writing = record { table = refl; cells = fragment_concrete fragment } in
        let At_assoc : AssocId → Type 0 = λ b. At (model_of basis).assocs b.index assoc in (
          writing,
          record {
            fragment = fragment;
            of_assoc = of_assoc;
            writes = record {
              mapped = mapped.0;
              is_assoc = subst At_assoc (sym of_assoc) here;
              stands = subst (λ b. Contains (links_in state b) link) (sym of_assoc) stands;
            };
            is = refl;
          },
          subst (λ w. IsConcrete told_by_link w writing) found.2 concrete_one,
        ));
  }
