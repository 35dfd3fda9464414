-- Where an association is hosted and an entity may have any number of partners by it, a state with two of them clashes.
use Rattle.std.proofs.Common.{◌≡◌, ◌≢◌, ◌≤◌, inl, inr, List, ◌++◌, map, length, All, Contains, Bool, true, false, not, if◌then◌else◌, refl, sym, ap, subst, ◌∙◌, arith}
use Rattle.std.proofs.lemmas.List.Elements.{All-contains, Contains-append_left, Contains-append_right}
use Rattle.emc_base.proofs.Lists.{at_once, item_at}
use Rattle.emc_base.proofs.Mapped.{contains_at, contains_map}
use Rattle.emc_base.proofs.Numbered.{map_contains}
use Rattle.round_trip.specs.Words.{SetId, AssocId, ColId, PropId, Value, Assoc, Column, End, Entity, EntityModel, FailsAt, Link, LinkFragment, LinkWrites, Pair, Place, State, Table, Writing, WritesRow, At, DemandsCell, end_cells, entities_in, key_of, key_props, link_cells, links_in, place_at, value_beside}
use Rattle.round_trip.specs.FailsAt.{Clashes, HasColumn, IsHostedAt}
use Rattle.round_trip.specs.declared.FailKind.TheVariants as kind
use Rattle.edm_types.specs.declared.model.Mult.TheVariants.{Many}
use Rattle.round_trip.specs.soundness.Lookups.{columns_of, set_key}
use Rattle.round_trip.specs.soundness.mappings.Fragments.{WritesEndKey}
use Rattle.round_trip.specs.soundness.mappings.Mappings.{HasPairIds}
use Rattle.round_trip.specs.soundness.mappings.Owners.{Owns}
use Rattle.round_trip.specs.soundness.models.Constraints.{IsSoundEnd}
use Rattle.schema_laws.specs.state_demand.Owners.{IsOwned, StandsAt, paired_key}
use Rattle.schema_laws.specs.state_demand.Writings.{link_writing}
use Rattle.schema_laws.proofs.sound_demand.Fitting.{columns_are, link_ids, sound_link}
use Rattle.schema_laws.proofs.sound_demand.owners.Owned.{owned}
use Rattle.schema_laws.proofs.sound_demand.owners.Pairing as pairing_of
use Rattle.cells.specs.Limits.{IsWithinLimits}
use Rattle.regions.specs.Basis.{Basis, Host, HostedAssoc, host_key, partner_end}
use Rattle.regions.specs.region_laws.Concrete.{WritesHosted}
use Rattle.regions.specs.region_laws.IsBasis.{IsBasis, IsHostOf}
use Rattle.regions.proofs.region_laws.entities.Hosting.{independent}
use Rattle.regions.proofs.region_laws.writings.Owned.{row_writings}
use Rattle.region_states.specs.conflicts.There.{NoneFailsBy}
use Rattle.host_states.specs.Hosting.{HaveFewPartners}
use Rattle.population.specs.Given.{HasNumbers}
use Rattle.population.specs.LinkStates.{HoldsTwoLinks, at_end, entity_at, key_at, other_link, plain_link, two_links_state}
use Rattle.population.specs.Numbered.{end_of}
use Rattle.population.specs.Supported.{end_key}
use Rattle.population.proofs.supporting.Links.{near_key}
use Rattle.population.proofs.supporting.LinkStates.{two_hold}
use Rattle.population.proofs.plain.Numbered.{some_part, sound_end}
use Rattle.host_states.specs.ManyPartners.{ClashesInRow, shared_state}
use Rattle.host_states.proofs.focus.HostEnds.{host_key_is, host_side, partner_side}

-- the pairs at an end
abbrev pub pairs_of : Bool → LinkFragment → List Pair
pairs_of first fragment = if first then fragment.first else fragment.second

module _ (model : EntityModel) (fragment : LinkFragment) (assoc : Assoc) where
  among_pairs : (first : Bool) (pair : Pair) → Contains (pairs_of first fragment) pair → Contains (fragment.first ++ fragment.second) pair
  among_pairs true pair has = Contains-append_left fragment.first fragment.second pair has
  among_pairs false pair has = Contains-append_right fragment.first fragment.second pair has

  writes_end : (first : Bool) → WritesEndKey model assoc.first.ty fragment.first → WritesEndKey model assoc.second.ty fragment.second
      → WritesEndKey model (end_of first assoc).ty (pairs_of first fragment)
  writes_end true one two = one
  writes_end false one two = two

  -- a link gives the column of a pair the part of the key at its end
  pub gives_part : (first : Bool) (link : Link) (pair : Pair) → Contains (pairs_of first fragment) pair
      → Contains {X = ColId × Value} (link_cells model assoc fragment link) (pair.col, value_beside pair.prop (key_props model (end_of first assoc).ty) (end_key first link))
  gives_part true link pair has =
      let cell : Pair → ColId × Value = λ one. (one.col, value_beside one.prop (key_props model assoc.first.ty) link.first) in
      Contains-append_left (end_cells model assoc.first.ty fragment.first link.first) (end_cells model assoc.second.ty fragment.second link.second) (cell pair)
      (contains_map cell fragment.first pair has)
  gives_part false link pair has =
      let cell : Pair → ColId × Value = λ one. (one.col, value_beside one.prop (key_props model assoc.second.ty) link.second) in
      Contains-append_right (end_cells model assoc.first.ty fragment.first link.first) (end_cells model assoc.second.ty fragment.second link.second) (cell pair)
      (contains_map cell fragment.second pair has)

module _ (basis : Basis) (is : IsBasis basis) (limits : IsWithinLimits basis.schema) (s : SetId) (host : Host) (hosts : Contains (basis.hosts s) host) where
  abbrev pub by : IsHostOf basis.schema s host
  by = (is.hosts s host).0 hosts

  -- the association that is hosted
  abbrev pub the_assoc : Assoc
  the_assoc = by.assoc

  pub is_assoc : At basis.schema.model.assocs host.assoc.index the_assoc
  is_assoc = by.is_assoc

  here : At basis.schema.model.assocs by.fragment.assoc.index the_assoc
  here = let P : AssocId → Type 0 = λ a. At basis.schema.model.assocs a.index the_assoc in subst P (sym by.of_assoc) is_assoc

  -- the set writes the table, by the pairs at this end
  owns : (first : Bool) → IsHostedAt basis.schema by.fragment.table (pairs_of first by.fragment) → (end_of first the_assoc).set ≡ s
      → Owns basis.schema by.fragment.table s (pairs_of first by.fragment)
  owns true hosted at_set = inr (by.fragment, the_assoc, record { is_fragment = by.is_fragment; is_assoc = here; to_table = refl }, inl (hosted, at_set, refl))
  owns false hosted at_set = inr (by.fragment, the_assoc, record { is_fragment = by.is_fragment; is_assoc = here; to_table = refl }, inr (hosted, at_set, refl))

  near_set : (end_of host.first_hosts the_assoc).set ≡ s
  near_set = ap (λ (end : End). end.set) (sym (host_side host.first_hosts the_assoc)) ∙ by.at_set

  pub the_owner : (pairing : List Pair) × IsOwned basis.schema by.fragment.table s pairing
  the_owner = owned basis.schema is.sound by.fragment.table s (pairs_of host.first_hosts by.fragment) (owns host.first_hosts by.hosted near_set)

  module _ (many : (partner_end host.first_hosts the_assoc).mult ≡ Many) where
    abbrev model : EntityModel
    model = basis.schema.model

    abbrev pub state : State
    state = two_links_state model 0 host.assoc host.first_hosts the_assoc

    abbrev far : End
    far = end_of (not host.first_hosts) the_assoc

    numbers : HasNumbers model 0
    numbers = record { sound = is.sound.model; few = limits.model.0; row = omega (arith) }

    stands : HoldsTwoLinks model 0 host.assoc host.first_hosts the_assoc state
    stands = two_hold model 0 numbers host.assoc the_assoc is_assoc (independent basis is s host hosts the_assoc is_assoc) host.first_hosts
        (ap (λ (end : End). end.mult) (sym (partner_side host.first_hosts the_assoc)) ∙ many)

    abbrev entity : Entity
    entity = entity_at model 0 (at_end model 0 host.first_hosts the_assoc)

    -- both links write the row of the entity
    abbrev row_key : List Value
    row_key = paired_key model the_owner.0 entity

    stands_at : StandsAt basis.schema state s the_owner.0 row_key entity
    stands_at = record { stands = subst (λ u. Contains (entities_in state u) entity) near_set (stands.one.ends host.first_hosts); at_key = refl }

    writes_row : (link : Link) → Contains (links_in state host.assoc) link → end_key host.first_hosts link ≡ key_at model 0 (at_end model 0 host.first_hosts the_assoc)
        → WritesRow basis.schema state by.fragment.table row_key (link_writing model by.fragment the_assoc link)
    writes_row link there at_key =
        let writing : Writing = link_writing model by.fragment the_assoc link in
        let writes : LinkWrites basis.schema state by.fragment the_assoc link =
        record { mapped = by.is_fragment; is_assoc = here; stands = subst (λ a. Contains (links_in state a) link) (sym by.of_assoc) there } in
        let hosted : WritesHosted basis state s entity writing = record {
          host = host;
          fragment = by.fragment;
          assoc = the_assoc;
          link = link;
          hosts = hosts;
          of_assoc = by.of_assoc;
          writes = writes;
          at_key = host_key_is host.first_hosts link ∙ at_key ∙ sym (stands.one.keys host.first_hosts);
          is = refl;
        } in
        (row_writings basis is (record { state = state; legal = stands.one.legal; s = s; entity = entity; stands = stands_at.stands }) by.fragment.table row_key
        (record { pairing = the_owner.0; owned = the_owner.1; at = stands_at }) writing).1 (refl, inr hosted)

    own_key : (first : Bool) → end_key first (plain_link model 0 the_assoc) ≡ key_at model 0 (at_end model 0 first the_assoc)
    own_key true = refl
    own_key false = refl

    -- the column of a part of the partner's key
    far_sound : IsSoundEnd model far
    far_sound = sound_end model is.sound.model the_assoc (contains_at model.assocs host.assoc.index the_assoc is_assoc) (not host.first_hosts)

    pub part : (p : PropId) × Contains (set_key model far.set) p
    part = some_part model is.sound.model far.set far_sound.under.0 far_sound.under.1

    far_key : key_props model far.ty ≡ set_key model far.set
    far_key = pairing_of.end_key basis.schema is.sound far far_sound

    abbrev far_pairs : List Pair
    far_pairs = pairs_of (not host.first_hosts) by.fragment

    pub pair : (one : Pair) × Contains far_pairs one × (one.prop ≡ part.0)
    pair =
        let link = sound_link basis.schema is.sound by.fragment by.is_fragment the_assoc here in
        let writes : WritesEndKey model far.ty far_pairs = writes_end model by.fragment the_assoc (not host.first_hosts) link.first link.second in
        map_contains (λ (one : Pair). one.prop) far_pairs part.0
        (All-contains (Contains (map (λ (one : Pair). one.prop) far_pairs)) (key_props model far.ty) part.0 writes.all (subst (λ props. Contains props part.0) (sym far_key) part.1))

    pub column : (table : Table) × (column : Column) × HasColumn basis.schema by.fragment.table table pair.0.col column
    column =
        let ids = link_ids basis.schema is.sound by.fragment by.is_fragment in
        let of_pair = All-contains (HasPairIds basis.schema by.fragment.table) (by.fragment.first ++ by.fragment.second) pair.0 ids.pairs
        (among_pairs model by.fragment the_assoc (not host.first_hosts) pair.0 pair.1) in
        let table = item_at basis.schema.store.tables by.fragment.table.index ids.table in
        let found = item_at (columns_of basis.schema.store by.fragment.table) pair.0.col.index of_pair.1 in (
          table.0,
          found.0,
          record {
            is_table = table.1;
            is_column = subst (λ cols. At cols pair.0.col.index found.0) (columns_are basis.schema.store by.fragment.table table.0 table.1) found.1;
          },
        )

    -- holds the keys of both partners
    abbrev told : Link → Value
    told link = value_beside pair.0.prop (key_props model far.ty) (end_key (not host.first_hosts) link)

    told_apart : told (plain_link model 0 the_assoc) ≢ told (other_link model 0 host.first_hosts the_assoc)
    told_apart =
        let Apart : PropId → List PropId → Type 0 = λ p props. value_beside p props (end_key (not host.first_hosts) (plain_link model 0 the_assoc))
        ≢ value_beside p props (end_key (not host.first_hosts) (other_link model 0 host.first_hosts the_assoc)) in
        subst (λ p. Apart p (key_props model far.ty)) (sym pair.2) (subst (Apart part.0) (sym far_key) (stands.apart part.0 part.1))

    demands : (link : Link) → Contains (links_in state host.assoc) link → end_key host.first_hosts link ≡ key_at model 0 (at_end model 0 host.first_hosts the_assoc)
        → DemandsCell basis.schema state by.fragment.table row_key pair.0.col (told link)
    demands link there at_key = (
      link_writing model by.fragment the_assoc link,
      writes_row link there at_key,
      inl (gives_part model by.fragment the_assoc (not host.first_hosts) link pair.0 pair.1),
    )

    -- so it clashes there
    pub two_clash : (d : State) → FailsAt basis.schema kind.Clash (place_at column.0.name row_key column.1.name) state d
    two_clash d = record {
      legal = stands.one.legal;
      fails = record {
        t = by.fragment.table;
        table = column.0;
        col = pair.0.col;
        column = column.1;
        key = row_key;
        one = told (plain_link model 0 the_assoc);
        two = told (other_link model 0 host.first_hosts the_assoc);
        has_column = column.2;
        demands_one = demands (plain_link model 0 the_assoc) stands.one.linked (own_key host.first_hosts);
        demands_two = demands (other_link model 0 host.first_hosts the_assoc) stands.two
            (near_key host.first_hosts (key_at model 0 (at_end model 0 host.first_hosts the_assoc)) _);
        different = told_apart;
        place_is = refl;
      };
    }

module _ (basis : Basis) (is : IsBasis basis) (limits : IsWithinLimits basis.schema) where
  pub many_clash : (s : SetId) (at : HostedAssoc basis s) → (partner_end at.host.first_hosts at.assoc).mult ≡ Many → ClashesInRow basis s at.host at.assoc
  many_clash s at many =
      let host : Host = at.host in
      let own : Assoc = the_assoc basis is limits s host at.hosts in
      let one : own ≡ at.assoc = at_once basis.schema.model.assocs host.assoc.index own at.assoc (is_assoc basis is limits s host at.hosts) at.is_assoc in
      let P : Assoc → Type 0 = λ it. (partner_end host.first_hosts it).mult ≡ Many → ClashesInRow basis s host it in
      subst P one (λ has. record {
        t = (by basis is limits s host at.hosts).fragment.table;
        col = (pair basis is limits s host at.hosts has).0.col;
        table = (column basis is limits s host at.hosts has).0;
        column = (column basis is limits s host at.hosts has).1;
        has_column = (column basis is limits s host at.hosts has).2;
        pairing = (the_owner basis is limits s host at.hosts).0;
        owned = (the_owner basis is limits s host at.hosts).1;
        fails = two_clash basis is limits s host at.hosts has;
      }) many

  -- where no legal state does, partners are few
  pub few_by_clear : NoneFailsBy basis.schema kind.Clash → HaveFewPartners basis
  few_by_clear clear s host hosts assoc here many =
      let fails = many_clash s (record { host = host; hosts = hosts; assoc = assoc; is_assoc = here }) many in
      let state : State = shared_state basis host assoc in
      clear _ state state (fails.fails state)
