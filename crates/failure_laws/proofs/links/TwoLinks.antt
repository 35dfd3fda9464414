-- Two links of one entity clash in its row, in each column that holds a part of the partner's key.
use Rattle.std.proofs.Common.{◌≡◌, ◌≢◌, inl, inr, List, Contains, Bool, true, false, not, if◌then◌else◌, refl, sym, ap, subst, ◌∙◌}
use Rattle.std.proofs.lemmas.List.Elements.{Contains-append_left, Contains-append_right}
use Rattle.emc_base.proofs.Mapped.{contains_at, contains_filter, contains_map}
use Rattle.round_trip.specs.Words.{AssocId, ColId, PropId, Value, Assoc, DemandsCell, End, Entity, EntityModel, FailsAt, Fills, Link, LinkFragment, LinkWrites, Pair, Place, State, WritesRow, At, end_cells, entities_in, key_of, key_props, link_cells, links_in, value_beside}
use Rattle.round_trip.specs.FailsAt.{Clashes}
use Rattle.round_trip.specs.declared.FailKind.TheVariants as kind
use Rattle.edm_types.specs.declared.model.Mult.TheVariants.{Many}
use Rattle.round_trip.specs.soundness.Lookups.{set_key}
use Rattle.round_trip.specs.soundness.mappings.Fragments.{WritesEndKey}
use Rattle.schema_laws.specs.state_demand.Owners.{StandsAt, paired_key}
use Rattle.schema_laws.specs.state_demand.Selecting.{same_key}
use Rattle.schema_laws.specs.state_demand.Writings.{link_writing}
use Rattle.schema_laws.proofs.sound_demand.Fitting.{sound_link}
use Rattle.schema_laws.proofs.sound_demand.owners.Pairing as pairing_of
use Rattle.schema_laws.proofs.state_demand.writings.Selecting.{Decides-key}
use Rattle.regions.specs.Basis.{Basis, Host, host_key, partner_end}
use Rattle.regions.specs.region_laws.Concrete.{WritesHosted}
use Rattle.regions.specs.region_laws.Held.{IsAtRow}
use Rattle.regions.specs.region_laws.IsBasis.{IsBasis}
use Rattle.regions.specs.region_laws.RegionAt.{links_at}
use Rattle.regions.proofs.region_laws.entities.Hosting.{at_set}
use Rattle.regions.proofs.region_laws.writings.Owned.{row_writings}
use Rattle.region_states.specs.conflicts.There.{AreTwoLinks, LinksFailThere}
use Rattle.population.specs.LinkStates.{HoldsTwoLinks, at_end, key_at, other_at, other_link, plain_link}
use Rattle.population.specs.Numbered.{end_of}
use Rattle.population.specs.Supported.{end_key}
use Rattle.population.proofs.plain.Numbered.{sound_end}
use Rattle.population.proofs.supporting.Links.{near_key}
use Rattle.host_states.specs.ManyPartners.{shared_entity}
use Rattle.host_states.proofs.focus.HostEnds.{host_key_is, host_side}
use Rattle.failure_laws.specs.Places.{IsSharedCell}

-- the pairs at the end of the partner
abbrev pub partner_pairs : Bool → LinkFragment → List Pair
partner_pairs first_hosts fragment = if first_hosts then fragment.second else fragment.first

module _ (model : EntityModel) (fragment : LinkFragment) (assoc : Assoc) where
  -- they write the key of that end
  writes_far : (first : Bool) → WritesEndKey model assoc.first.ty fragment.first → WritesEndKey model assoc.second.ty fragment.second
      → WritesEndKey model (end_of (not first) assoc).ty (partner_pairs first fragment)
  writes_far true one two = two
  writes_far false one two = one

  -- a link gives the column of such a pair the part of the partner's key
  gives_far : (first : Bool) (link : Link) (pair : Pair) → Contains (partner_pairs first fragment) pair
      → Contains {X = ColId × Value} (link_cells model assoc fragment link)
      (pair.col, value_beside pair.prop (key_props model (end_of (not first) assoc).ty) (end_key (not first) link))
  gives_far true link pair has =
      let cell : Pair → ColId × Value = λ one. (one.col, value_beside one.prop (key_props model assoc.second.ty) link.second) in
      Contains-append_right (end_cells model assoc.first.ty fragment.first link.first) (end_cells model assoc.second.ty fragment.second link.second) (cell pair)
      (contains_map cell fragment.second pair has)
  gives_far false link pair has =
      let cell : Pair → ColId × Value = λ one. (one.col, value_beside one.prop (key_props model assoc.first.ty) link.first) in
      Contains-append_left (end_cells model assoc.first.ty fragment.first link.first) (end_cells model assoc.second.ty fragment.second link.second) (cell pair)
      (contains_map cell fragment.first pair has)

  -- the key of the plain link at an end
  plain_end_key : (first : Bool) → end_key first (plain_link model 0 assoc) ≡ key_at model 0 (at_end model 0 first assoc)
  plain_end_key true = refl
  plain_end_key false = refl

module _ (basis : Basis) (is : IsBasis basis) (a : AssocId) (place : Place) (cell : IsSharedCell basis a place) (state : State)
    (stands : HoldsTwoLinks basis.schema.model 0 a cell.at.host.first_hosts cell.at.assoc state) where
  abbrev model : EntityModel
  model = basis.schema.model

  abbrev host : Host
  host = cell.at.host

  abbrev assoc : Assoc
  assoc = cell.at.assoc

  abbrev entity : Entity
  entity = shared_entity basis host assoc

  abbrev key : List Value
  key = paired_key model cell.owned.pairing entity

  near_set : (end_of host.first_hosts assoc).set ≡ cell.s
  near_set = ap (λ (end : End). end.set) (sym (host_side host.first_hosts assoc)) ∙ at_set basis is cell.s host cell.at.hosts assoc cell.at.is_assoc

  stands_at : StandsAt basis.schema state cell.s cell.owned.pairing key entity
  stands_at = record { stands = subst (λ u. Contains (entities_in state u) entity) near_set (stands.one.ends host.first_hosts); at_key = refl }

  at_row : IsAtRow basis state cell.s entity cell.fragment.table key
  at_row = record { pairing = cell.owned.pairing; owned = cell.owned.owned; at = stands_at }

  of_host : cell.fragment.assoc ≡ host.assoc
  of_host = cell.of_fragment ∙ sym cell.of_assoc

  -- a link of the entity
  module _ (link : Link) (has : Contains (links_in state a) link) (near : end_key host.first_hosts link ≡ key_at model 0 (at_end model 0 host.first_hosts assoc)) where
    link_writes : LinkWrites basis.schema state cell.fragment assoc link
    link_writes = record {
      mapped = cell.mapped;
      is_assoc = (let P : AssocId → Type 0 = λ b. At model.assocs b.index assoc in subst P (sym of_host) cell.at.is_assoc);
      stands = subst (λ b. Contains (links_in state b) link) (sym cell.of_fragment) has;
    }

    at_key : host_key host.first_hosts link ≡ key_of model entity
    at_key = host_key_is host.first_hosts link ∙ near ∙ sym (stands.one.keys host.first_hosts)

    is_hosted : Contains (links_at state host (key_of model entity)) link
    is_hosted = contains_filter (λ (one : Link). same_key (host_key host.first_hosts one) (key_of model entity)) (links_in state host.assoc) link
        (subst (λ b. Contains (links_in state b) link) (sym cell.of_assoc) has)
        ((Decides-key (host_key host.first_hosts link) (key_of model entity)).1 at_key)

    writes_row : WritesRow basis.schema state cell.fragment.table key (link_writing model cell.fragment assoc link)
    writes_row =
        let hosted : WritesHosted basis state cell.s entity (link_writing model cell.fragment assoc link) = record {
          host = host;
          fragment = cell.fragment;
          assoc = assoc;
          link = link;
          hosts = cell.at.hosts;
          of_assoc = of_host;
          writes = link_writes;
          at_key = at_key;
          is = refl;
        } in
        (row_writings basis is (record { state = state; legal = stands.one.legal; s = cell.s; entity = entity; stands = stands_at.stands }) cell.fragment.table key at_row
        (link_writing model cell.fragment assoc link)).1 (refl, inr hosted)

    -- the part of the partner's key
    abbrev part : Value
    part = value_beside cell.pair.prop (key_props model (end_of (not host.first_hosts) assoc).ty) (end_key (not host.first_hosts) link)

    fills : Fills (link_writing model cell.fragment assoc link) cell.pair.col part
    fills = inl (gives_far model cell.fragment assoc host.first_hosts link cell.pair cell.paired)

  abbrev one : Link
  one = plain_link model 0 assoc

  abbrev other : Link
  other = other_link model 0 host.first_hosts assoc

  near_one : end_key host.first_hosts one ≡ key_at model 0 (at_end model 0 host.first_hosts assoc)
  near_one = plain_end_key model cell.fragment assoc host.first_hosts

  near_other : end_key host.first_hosts other ≡ key_at model 0 (at_end model 0 host.first_hosts assoc)
  near_other = near_key host.first_hosts (key_at model 0 (at_end model 0 host.first_hosts assoc)) (key_at model 0 (other_at model 0 (not host.first_hosts) assoc))

  -- the partners' keys differ in it
  parts_apart : part one stands.one.linked near_one ≢ part other stands.two near_other
  parts_apart =
      let far : End = end_of (not host.first_hosts) assoc in
      let here : At model.assocs cell.fragment.assoc.index assoc = (link_writes one stands.one.linked near_one).is_assoc in
      let sound = sound_link basis.schema is.sound cell.fragment cell.mapped assoc here in
      let writes : WritesEndKey model far.ty (partner_pairs host.first_hosts cell.fragment) =
      writes_far model cell.fragment assoc host.first_hosts sound.first sound.second in
      let keyed : key_props model far.ty ≡ set_key model far.set = pairing_of.end_key basis.schema is.sound far
      (sound_end model is.sound.model assoc (contains_at model.assocs host.assoc.index assoc cell.at.is_assoc) (not host.first_hosts)) in
      let among : Contains (key_props model far.ty) cell.pair.prop =
      pairing_of.written_part basis.schema is.sound far.ty (partner_pairs host.first_hosts cell.fragment) writes cell.pair cell.paired in
      let Apart : List PropId → Type 0 = λ props. value_beside cell.pair.prop props (end_key (not host.first_hosts) one)
      ≢ value_beside cell.pair.prop props (end_key (not host.first_hosts) other) in
      subst Apart (sym keyed) (stands.apart cell.pair.prop (subst (λ props. Contains props cell.pair.prop) keyed among))

  demands : (link : Link) (has : Contains (links_in state a) link) (near : end_key host.first_hosts link ≡ key_at model 0 (at_end model 0 host.first_hosts assoc))
      → DemandsCell basis.schema state cell.fragment.table key cell.pair.col (part link has near)
  demands link has near = (link_writing model cell.fragment assoc link, writes_row link has near, fills link has near)

  -- these are two links of the entity, which give the cell two values
  two_are : (partner_end cell.at.host.first_hosts cell.at.assoc).mult ≡ Many
      → AreTwoLinks basis a state cell.fragment.table key cell.pair.col (part one stands.one.linked near_one) (part other stands.two near_other)
  two_are many = record {
    s = cell.s;
    at = cell.at;
    of_assoc = cell.of_assoc;
    many = many;
    entity = entity;
    at_row = at_row;
    fragment = cell.fragment;
    link = one;
    other = other;
    writes = link_writes one stands.one.linked near_one;
    other_writes = link_writes other stands.two near_other;
    of_fragment = cell.of_fragment;
    hosted = is_hosted one stands.one.linked near_one;
    other_hosted = is_hosted other stands.two near_other;
    fills = fills one stands.one.linked near_one;
    other_fills = fills other stands.two near_other;
  }

  -- so the state clashes there
  abbrev two_clash : Clashes basis.schema state place
  two_clash = record {
    t = cell.fragment.table;
    table = cell.owned.table;
    col = cell.pair.col;
    column = cell.owned.column;
    key = key;
    one = part one stands.one.linked near_one;
    two = part other stands.two near_other;
    has_column = cell.owned.has_column;
    demands_one = demands one stands.one.linked near_one;
    demands_two = demands other stands.two near_other;
    different = parts_apart;
    place_is = cell.is;
  }

  pub two_links_fail : (d : State) → FailsAt basis.schema kind.Clash place state d
  two_links_fail d = record { legal = stands.one.legal; fails = two_clash }

  -- and that is a failure of the association's links
  pub two_links_there : (partner_end cell.at.host.first_hosts cell.at.assoc).mult ≡ Many → LinksFailThere basis a kind.Clash
  two_links_there many = record { place = place; c = state; d = state; legal = stands.one.legal; fails = (two_clash, inr (two_are many)) }
