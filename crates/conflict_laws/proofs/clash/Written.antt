-- What a state demands of an entity's row is listed by the pattern of its region, where each link that it hosts is flagged.
use Rattle.std.proofs.Common.{◌≡◌, inl, inr, ◌==◌, ◌&&◌, List, [], append-nil, map, filter, flat_map, if◌then◌else◌, All, Contains, Bool, true, false, IsTrue, refl, sym, ap, subst, ◌∙◌}
use Rattle.std.proofs.lemmas.Bool.Decides.{Decides-eqb}
use Rattle.std.proofs.lemmas.List.Elements.{Contains-append_left, Contains-append_right}
use Rattle.emc_base.proofs.Lists.{all_from_members}
use Rattle.emc_base.proofs.Mapped.{contains_filter, contains_map}
use Rattle.round_trip.specs.Words.{SetId, TypeId, TableId, ColId, AssocId, PropId, Value, Assoc, DemandsCell, Entity, Fragment, Link, LinkFragment, Pair, State, Writing, At, IsA, key_of, key_props, links_in, value_beside, value_of}
use Rattle.round_trip.specs.soundness.mappings.Fragments.{WritesEndKey}
use Rattle.schema_laws.specs.state_demand.MadeTables.{given_cells}
use Rattle.schema_laws.specs.state_demand.Selecting.{same_key}
use Rattle.schema_laws.specs.state_demand.Writings.{link_writing}
use Rattle.schema_laws.proofs.state_demand.writings.Given.{gives_cell}
use Rattle.schema_laws.proofs.state_demand.lists.Lists.{contains_flat_map}
use Rattle.schema_laws.proofs.state_demand.owners.Owners.{beside_map}
use Rattle.schema_laws.proofs.state_demand.writings.Selecting.{Decides-key}
use Rattle.schema_laws.proofs.sound_demand.Fitting.{sound_link}
use Rattle.schema_laws.proofs.sound_demand.Keys.{inherits_keys}
use Rattle.schema_laws.proofs.sound_demand.owners.Pairing.{written_part}
use Rattle.regions.specs.declared.region.Region.{Region}
use Rattle.regions.specs.declared.pattern.Focus.TheVariants as focus
use Rattle.regions.specs.Basis.{Basis, Host, host_end, host_key, partner_end, partner_key}
use Rattle.regions.specs.Patterns.{Valuation, by_entity, pattern_of}
use Rattle.regions.specs.Symbols.{SymbolWriting, fragment_writing, fragments_of, host_writings, is_linked, link_fragment_writing, link_fragments_of, region_writings, selects_region}
use Rattle.regions.specs.region_laws.Concrete.{AreConcrete, HasSymbol, IsConcrete, IsWritingAt, TellsEnd, WritesEntity, WritesHosted, concrete}
use Rattle.regions.specs.region_laws.IsBasis.{IsBasis}
use Rattle.regions.specs.region_laws.Partners.{TellsPartner}
use Rattle.regions.specs.region_laws.RegionAt.{links_at}
use Rattle.regions.proofs.region_laws.writings.Cells.{cells_concrete}
use Rattle.regions.proofs.region_laws.writings.Concrete.{entity_concrete, link_concrete}
use Rattle.regions.proofs.region_laws.listing.Listed.{set_is}
use Rattle.regions.proofs.region_laws.writings.Owned.{row_writings}
use Rattle.regions.proofs.region_laws.writings.Patterns.{may_host, pairs_at, pairs_beyond}
use Rattle.regions.proofs.region_laws.entities.Selected.{Decides-selected}
use Rattle.schema_laws.proofs.state_demand.lists.Ids.{Decides-assoc}
use Rattle.regions.proofs.region_laws.pattern.symbols.Origins.{linked_decided}
use Rattle.regions.specs.region_laws.Held.{HeldEntity, IsAtRow}
use Rattle.regions.proofs.region_laws.entities.Held.{holding_of, standing_of}
use Rattle.region_states.specs.focus.Held.{ListsValue}
use Rattle.region_states.proofs.focus.Listed.{has_symbol}

-- each link that the entity hosts is flagged by the region, and is to the partner that is told
pub record HasToldLinks (basis : Basis) (state : State) (s : SetId) (entity : Entity) (region : Region) (part : AssocId → Bool → PropId → Value) : Type 0 where
  pub flagged : (host : Host) → Contains (basis.hosts s) host → (link : Link) → Contains (links_at state host (key_of basis.schema.model entity)) link
      → Contains region.linked host.assoc
  pub told : (host : Host) → Contains (basis.hosts s) host → (link : Link) → Contains (links_at state host (key_of basis.schema.model entity)) link
      → TellsPartner basis host link part

-- writings in symbols with their values
module _ (valuation : Valuation) (symbols : List SymbolWriting) where
  -- one of the writings in symbols is this one
  abbrev pub IsListed : Writing → Type 0
  IsListed writing = (one : SymbolWriting) × Contains symbols one × IsConcrete valuation one writing

  -- each writing in symbols is one with values
  listed_concrete : AreConcrete valuation symbols IsListed
  listed_concrete = record {
    listed = λ writing is. is;
    written = λ one has.
        (let writing : Writing = record { table = one.table; cells = concrete valuation one.cells; conds = [] } in
        let is : IsConcrete valuation one writing = record { table = refl; cells = append-nil (concrete valuation one.cells) } in
        (writing, (one, has, is), is));
  }

  -- what such a writing gives to a cell is the value of a symbol that is listed
  gives_symbol : (writing : Writing) → IsListed writing → (c : ColId) (value : Value) → Contains {X = ColId × Value} (given_cells writing) (c, value)
      → HasSymbol valuation symbols writing.table c value
  gives_symbol writing listed c value gives = (cells_concrete valuation symbols IsListed listed_concrete writing.table c value).0 (writing, (refl, listed), gives)

-- the pairs at the end that hosts a link
module _ (basis : Basis) (is : IsBasis basis) (fragment : LinkFragment) (mapped : Contains basis.schema.mapping.links fragment) (assoc : Assoc)
    (here : At basis.schema.model.assocs fragment.assoc.index assoc) where
  -- write the key there
  end_key : (b : Bool) → WritesEndKey basis.schema.model (host_end b assoc).ty (pairs_at b fragment)
  end_key true = (sound_link basis.schema is.sound fragment mapped assoc here).first
  end_key false = (sound_link basis.schema is.sound fragment mapped assoc here).second

  -- and the pairs at the other end the key of the partner
  partner_part : (b : Bool) (pair : Pair) → Contains (pairs_beyond b fragment) pair → Contains (key_props basis.schema.model (partner_end b assoc).ty) pair.prop
  partner_part true pair has =
      written_part basis.schema is.sound assoc.second.ty fragment.second (sound_link basis.schema is.sound fragment mapped assoc here).second pair has
  partner_part false pair has =
      written_part basis.schema is.sound assoc.first.ty fragment.first (sound_link basis.schema is.sound fragment mapped assoc here).first pair has

  -- the key here is that of each entity of the end's type
  own_part : (entity : Entity) (b : Bool) → IsA basis.schema.model entity.ty (host_end b assoc).ty → (pair : Pair) → Contains (pairs_at b fragment) pair
      → value_of basis.schema.model entity pair.prop ≡ value_beside pair.prop (key_props basis.schema.model (host_end b assoc).ty) (key_of basis.schema.model entity)
  own_part entity b under pair has =
      let end : TypeId = (host_end b assoc).ty in
      let keys : key_props basis.schema.model entity.ty ≡ key_props basis.schema.model end = (inherits_keys basis.schema.model is.sound.model).same entity.ty end under in
      let in_key : Contains (key_props basis.schema.model end) pair.prop = written_part basis.schema is.sound end (pairs_at b fragment) (end_key b) pair has in
      let in_own : Contains (key_props basis.schema.model entity.ty) pair.prop = subst (λ props. Contains props pair.prop) (sym keys) in_key in
      sym (ap (λ props. value_beside pair.prop props (key_of basis.schema.model entity)) (sym keys)
      ∙ beside_map (value_of basis.schema.model entity) (key_props basis.schema.model entity.ty) pair.prop in_own)

module _ (basis : Basis) (is : IsBasis basis) (held : HeldEntity basis) (part : AssocId → Bool → PropId → Value)
    (has_told : HasToldLinks basis held.state held.s held.entity held.region part) where
  abbrev values : Valuation
  values = by_entity basis.schema.model held.entity part

  abbrev key : List Value
  key = key_of basis.schema.model held.entity

  abbrev own_writings : List SymbolWriting
  own_writings = map fragment_writing (fragments_of basis held.region)

  abbrev linked_hosts : List Host
  linked_hosts = filter (λ host. is_linked basis held.region.linked host.assoc) (basis.hosts held.region.set)

  abbrev hosted_writings : List SymbolWriting
  hosted_writings = flat_map (host_writings basis) linked_hosts

  -- what the entity writes by a fragment of its set
  entity_listed : (writing : Writing) → WritesEntity basis held.state held.s held.entity writing → IsListed values (region_writings basis held.region) writing
  entity_listed writing by =
      let fragment : Fragment = by.fragment in
      let chosen : Fragment → Bool = λ one. (one.set.index == held.region.set.index) && selects_region basis held.region one in
      let same_set : (fragment.set.index == held.region.set.index) ≡ true =
      (Decides-eqb fragment.set.index held.region.set.index).1 (ap (λ (one : SetId). one.index) (by.of_set ∙ sym (set_is basis held.s held.region held.of_region.listed))) in
      let selects : selects_region basis held.region fragment ≡ true =
      (Decides-selected basis is fragment by.writes.mapped (holding_of basis held)).1 by.writes.selected in (
        fragment_writing fragment,
        Contains-append_left own_writings hosted_writings (fragment_writing fragment)
            (contains_map fragment_writing (fragments_of basis held.region) fragment
            (contains_filter chosen basis.schema.mapping.fragments fragment by.writes.mapped (λ k. same_set k && selects k))),
        record { table = ap (λ (one : Writing). one.table) by.is; cells = ap given_cells by.is ∙ entity_concrete basis.schema.model fragment held.entity part },
      )

  -- a link that the entity hosts is flagged, and the values tell both its keys
  module _ (writing : Writing) (by : WritesHosted basis held.state held.s held.entity writing) where
    abbrev host : Host
    host = by.host

    abbrev partner_hosts : Bool
    partner_hosts = if host.first_hosts then false else true

    abbrev symbols : SymbolWriting
    symbols = link_fragment_writing host.first_hosts partner_hosts by.fragment

    at_host : At basis.schema.model.assocs host.assoc.index by.assoc
    at_host = let P : AssocId → Type 0 = λ a. At basis.schema.model.assocs a.index by.assoc in subst P by.of_assoc by.writes.is_assoc

    here : Contains (links_at held.state host key) by.link
    here = contains_filter (λ (link : Link). same_key (host_key host.first_hosts link) key) (links_in held.state host.assoc) by.link
        (subst (λ a. Contains (links_in held.state a) by.link) by.of_assoc by.writes.stands) ((Decides-key (host_key host.first_hosts by.link) key).1 by.at_key)

    linked : Contains held.region.linked host.assoc
    linked = has_told.flagged host by.hosts by.link here

    abbrev TellsOwn : Bool → Pair → Type 0
    TellsOwn b pair = values.prop pair.prop ≡ value_beside pair.prop (key_props basis.schema.model (host_end b by.assoc).ty) (host_key b by.link)

    abbrev TellsOther : Bool → Pair → Type 0
    TellsOther b pair = values.part by.fragment.assoc (if b then false else true) pair.prop
        ≡ value_beside pair.prop (key_props basis.schema.model (partner_end b by.assoc).ty) (partner_key b by.link)

    own_told : All (TellsOwn host.first_hosts) (pairs_at host.first_hosts by.fragment)
    own_told = all_from_members (TellsOwn host.first_hosts) (pairs_at host.first_hosts by.fragment) (λ pair has.
        let end : TypeId = (host_end host.first_hosts by.assoc).ty in
        let under : IsA basis.schema.model held.entity.ty end = (is.types.tells held.entity.ty end).0
        (subst (λ t. IsTrue (basis.is_a t end)) (sym held.of_region.holds.typed) (may_host basis is held.s held.region held.of_region.listed host by.hosts linked by.assoc at_host)) in
        own_part basis is by.fragment by.writes.mapped by.assoc by.writes.is_assoc held.entity host.first_hosts under pair has
        ∙ ap (value_beside pair.prop (key_props basis.schema.model end)) (sym by.at_key))

    other_told : All (TellsOther host.first_hosts) (pairs_beyond host.first_hosts by.fragment)
    other_told = all_from_members (TellsOther host.first_hosts) (pairs_beyond host.first_hosts by.fragment) (λ pair has.
        ap (λ a. part a partner_hosts pair.prop) by.of_assoc ∙ has_told.told host by.hosts by.link here by.assoc at_host pair.prop
        (partner_part basis is by.fragment by.writes.mapped by.assoc by.writes.is_assoc host.first_hosts pair has))

    ends_told : (b : Bool) → All (TellsOwn b) (pairs_at b by.fragment) → All (TellsOther b) (pairs_beyond b by.fragment)
        → TellsEnd basis.schema.model values by.fragment.assoc true b by.assoc.first.ty by.fragment.first by.link.first
        × TellsEnd basis.schema.model values by.fragment.assoc false (if b then false else true) by.assoc.second.ty by.fragment.second by.link.second
    ends_told true own other = (own, other)
    ends_told false own other = (other, own)

    link_values : given_cells (link_writing basis.schema.model by.fragment by.assoc by.link) ≡ concrete values symbols.cells
    link_values =
        let both = ends_told host.first_hosts own_told other_told in
        link_concrete basis.schema.model by.fragment by.assoc by.link values host.first_hosts partner_hosts both.0 both.1

    -- so what it writes is listed
    hosted_listed : IsListed values (region_writings basis held.region) writing
    hosted_listed =
        let among_hosts : Contains linked_hosts host = contains_filter (λ (one : Host). is_linked basis held.region.linked one.assoc) (basis.hosts held.region.set) host
        (subst (λ u. Contains (basis.hosts u) host) (sym (set_is basis held.s held.region held.of_region.listed)) by.hosts) ((linked_decided basis held.region.linked host.assoc).1 linked) in
        let among_fragments : Contains (link_fragments_of basis host.assoc) by.fragment =
        contains_filter (λ (one : LinkFragment). one.assoc.index == host.assoc.index) basis.schema.mapping.links by.fragment by.writes.mapped
        ((Decides-assoc by.fragment.assoc host.assoc).1 by.of_assoc) in (
          symbols,
          Contains-append_right own_writings hosted_writings symbols (contains_flat_map (host_writings basis) linked_hosts host symbols among_hosts
              (contains_map (link_fragment_writing host.first_hosts partner_hosts) (link_fragments_of basis host.assoc) by.fragment among_fragments)),
          record { table = ap (λ (one : Writing). one.table) by.is; cells = ap given_cells by.is ∙ link_values },
        )

  -- and so is all that is written at the entity
  writing_listed : (writing : Writing) → IsWritingAt basis held.state held.s held.entity writing → IsListed values (region_writings basis held.region) writing
  writing_listed writing (inl by) = entity_listed writing by
  writing_listed writing (inr by) = hosted_listed writing by

  -- each value that a cell of the entity's row is to hold is that of a symbol which the pattern lists there
  pub demanded_listed : (t : TableId) (row_key : List Value) → IsAtRow basis held.state held.s held.entity t row_key → (c : ColId) (value : Value)
      → DemandsCell basis.schema held.state t row_key c value
      → ListsValue (pattern_of basis (focus.Entity held.region)) (by_entity basis.schema.model held.entity part) t c value
  demanded_listed t row_key at c value demands =
      let own = (row_writings basis is (standing_of basis held) t row_key at demands.0).0 demands.1 in
      let has : HasSymbol values (region_writings basis held.region) demands.0.table c value =
      gives_symbol values (region_writings basis held.region) demands.0 (writing_listed demands.0 own.1) c value (gives_cell demands.0 c value demands.2) in
      let H : TableId → Type 0 = λ u. HasSymbol values (region_writings basis held.region) u c value in
      (has_symbol basis is values (focus.Entity held.region) t c value).0 (subst H own.0 has)
