-- Links that rows tell: the parts of a partner's key are shown, each in one cell.
use Rattle.std.proofs.Common.{◌≡◌, ◌++◌, ◌==◌, List, filter, flat_map, map, if◌then◌else◌, Bool, true, false, not, Contains, refl, sym, ap, subst, ◌∙◌}
use Rattle.std.proofs.lemmas.List.Elements.{All-contains, Contains-append_left, Contains-append_right}
use Rattle.emc_base.proofs.Mapped.{contains_filter, contains_map}
use Rattle.emc_base.proofs.Numbered.{map_contains}
use Rattle.round_trip.specs.Words.{SetId, TableId, ColId, AssocId, PropId, Assoc, End, LinkFragment, Pair, At, key_props}
use Rattle.schema_laws.specs.state_demand.Owners.{props_in}
use Rattle.schema_laws.proofs.state_demand.lists.Lists.{contains_flat_map}
use Rattle.round_trip.specs.soundness.mappings.Mappings.{IsSoundLinkFragment}
use Rattle.schema_laws.proofs.sound_demand.Fitting.{sound_link}
use Rattle.regions.specs.declared.region.Region.{Region}
use Rattle.regions.specs.declared.pattern.Focus.TheVariants as focus
use Rattle.regions.specs.declared.pattern.Symbol.{Symbol}
use Rattle.regions.specs.declared.pattern.Symbol.TheVariants as symbol
use Rattle.regions.specs.Basis.{Basis, Host, partner_end}
use Rattle.regions.specs.Regions.{regions_of}
use Rattle.regions.specs.Symbols.{SymbolWriting, conds_symbols, end_symbols, fragment_writing, fragments_of, host_writings, is_linked, link_fragment_writing, link_fragments_of, region_writings}
use Rattle.regions.specs.region_laws.IsBasis.{IsBasis, IsHostOf}
use Rattle.regions.proofs.region_laws.listing.Listed.{set_is}
use Rattle.schema_laws.proofs.state_demand.lists.Ids.{Decides-assoc}
use Rattle.regions.specs.region_laws.pattern.Allowed.{end_at}
use Rattle.regions.proofs.region_laws.pattern.symbols.Hosting.{assoc_here, end_prop, the_assoc}
use Rattle.regions.proofs.region_laws.pattern.Laws.{listed_from}
use Rattle.regions.proofs.region_laws.pattern.Cells.{written_listed}
use Rattle.regions.proofs.region_laws.pattern.symbols.Origins.{linked_decided, side}
use Rattle.regions.proofs.region_laws.pattern.symbols.Standing.{IsEndOf, end_of}
use Rattle.regions.proofs.region_laws.pattern.Ends.{other_end}
use Rattle.region_states.proofs.focus.Listed.{lists_written}
use Rattle.case_laws.proofs.shown.Cases.{IsCell}

-- where one end hosts, each pair of the other gives its column an end
end_given : (hosts : Bool) (fragment : LinkFragment) (pair : Pair) → Contains (side (not hosts) fragment) pair
    → Contains (link_fragment_writing hosts (if hosts then false else true) fragment).cells (pair.col, symbol.End fragment.assoc (not hosts) pair.prop)
end_given true fragment pair among =
    let ones : List (ColId × Symbol) = end_symbols fragment.assoc true true fragment.first in
    let twos : List (ColId × Symbol) = end_symbols fragment.assoc false false fragment.second in
    let given : Pair → ColId × Symbol = λ one. (one.col, symbol.End fragment.assoc false one.prop) in
    Contains-append_left {X = ColId × Symbol} (ones ++ twos) (conds_symbols fragment.conds) (given pair)
    (Contains-append_right {X = ColId × Symbol} ones twos (given pair) (contains_map given fragment.second pair among))
end_given false fragment pair among =
    let ones : List (ColId × Symbol) = end_symbols fragment.assoc true false fragment.first in
    let twos : List (ColId × Symbol) = end_symbols fragment.assoc false true fragment.second in
    let given : Pair → ColId × Symbol = λ one. (one.col, symbol.End fragment.assoc true one.prop) in
    Contains-append_left {X = ColId × Symbol} (ones ++ twos) (conds_symbols fragment.conds) (given pair)
    (Contains-append_left {X = ColId × Symbol} ones twos (given pair) (contains_map given fragment.first pair among))

module _ (basis : Basis) (is : IsBasis basis) (s : SetId) (region : Region) (listed : Contains (regions_of basis s) region) where
  -- an end that the region's pattern lists: the partner's, of an association of which a link is there
  pub record IsPartnersEnd (a : AssocId) (first : Bool) (p : PropId) : Type 0 where
    pub host : Host
    pub assoc : Assoc
    pub is_host : Contains (basis.hosts region.set) host
    pub linked : Contains region.linked host.assoc
    pub here : At basis.schema.model.assocs host.assoc.index assoc
    pub of_assoc : host.assoc ≡ a
    pub partner : first ≡ not host.first_hosts
    pub among : Contains (key_props basis.schema.model (partner_end host.first_hosts assoc).ty) p

  pub partners_end : (t : TableId) (col : ColId) (symbols : List Symbol) → IsCell basis region t col symbols → (a : AssocId) (first : Bool) (p : PropId)
      → Contains symbols (symbol.End a first p) → IsPartnersEnd a first p
  partners_end t col symbols has a first p lists =
      let by : IsEndOf basis (focus.Entity region) t col a first p =
      end_of basis (focus.Entity region) t col a first p (listed_from basis is (focus.Entity region) t col (symbol.End a first p) (symbols, has, lists)) in
      let host : Host = by.partner.0 in
      let assoc : Assoc = the_assoc basis is by.fragment by.mapped in
      let Here : AssocId → Type 0 = λ b. At basis.schema.model.assocs b.index assoc in
      let Keyed : End → PropId → Type 0 = λ end q. Contains (key_props basis.schema.model end.ty) q in
      let same : end_at first assoc ≡ partner_end host.first_hosts assoc = ap (λ b. end_at b assoc) by.partner.4 ∙ other_end host.first_hosts assoc in
      record {
        host = host;
        assoc = assoc;
        is_host = by.partner.1;
        linked = by.partner.2;
        here = subst Here by.partner.3 (assoc_here basis is by.fragment by.mapped);
        of_assoc = sym by.partner.3 ∙ by.of_assoc;
        partner = by.partner.4;
        among = subst (λ end. Keyed end p) same (subst (Keyed (end_at first assoc)) by.at_prop (end_prop basis is by.fragment by.mapped first by.pair by.paired));
      }

  -- each part of the key of a partner is listed
  module _ (host : Host) (is_host : Contains (basis.hosts region.set) host) (linked : Contains region.linked host.assoc) (assoc : Assoc)
      (here : At basis.schema.model.assocs host.assoc.index assoc) (p : PropId)
      (among : Contains (key_props basis.schema.model (partner_end host.first_hosts assoc).ty) p) where
    abbrev first : Bool
    first = not host.first_hosts

    abbrev by : IsHostOf basis.schema s host
    by = (is.hosts s host).0 (subst (λ u. Contains (basis.hosts u) host) (set_is basis s region listed) is_host)

    pair_at : (b : Bool) → Contains (key_props basis.schema.model (end_at b assoc).ty) p → (pair : Pair) × Contains (side b by.fragment) pair × (pair.prop ≡ p)
    pair_at b key =
        let Here : AssocId → Type 0 = λ a. At basis.schema.model.assocs a.index assoc in
        let sound : IsSoundLinkFragment basis.schema by.fragment assoc =
        sound_link basis.schema is.sound by.fragment by.is_fragment assoc (subst Here (sym by.of_assoc) here) in
        pick b key sound
      where
        pick : (b : Bool) → Contains (key_props basis.schema.model (end_at b assoc).ty) p → IsSoundLinkFragment basis.schema by.fragment assoc
            → (pair : Pair) × Contains (side b by.fragment) pair × (pair.prop ≡ p)
        pick true among_first sound = map_contains (λ (pair : Pair). pair.prop) by.fragment.first p
            (All-contains (Contains (props_in by.fragment.first)) (key_props basis.schema.model assoc.first.ty) p sound.first.all among_first)
        pick false among_second sound = map_contains (λ (pair : Pair). pair.prop) by.fragment.second p
            (All-contains (Contains (props_in by.fragment.second)) (key_props basis.schema.model assoc.second.ty) p sound.second.all among_second)

    -- the host of the link writes it
    writing_there : Contains (region_writings basis region) (link_fragment_writing host.first_hosts (if host.first_hosts then false else true) by.fragment)
    writing_there =
        let write : LinkFragment → SymbolWriting = link_fragment_writing host.first_hosts (if host.first_hosts then false else true) in
        let is_there : Host → Bool = λ one. is_linked basis region.linked one.assoc in
        let hosted : List Host = filter is_there (basis.hosts region.set) in
        let chosen : Contains (link_fragments_of basis host.assoc) by.fragment =
        contains_filter (λ (one : LinkFragment). one.assoc.index == host.assoc.index) basis.schema.mapping.links by.fragment by.is_fragment
        ((Decides-assoc by.fragment.assoc host.assoc).1 by.of_assoc) in
        let hosts : Contains hosted host = contains_filter is_there (basis.hosts region.set) host is_host ((linked_decided basis region.linked host.assoc).1 linked) in
        Contains-append_right (map fragment_writing (fragments_of basis region)) (flat_map (host_writings basis) hosted) (write by.fragment)
        (contains_flat_map (host_writings basis) hosted host (write by.fragment) hosts
        (contains_map write (link_fragments_of basis host.assoc) by.fragment chosen))

    pub part_listed : (t : TableId) × (col : ColId) × (symbols : List Symbol) × IsCell basis region t col symbols × Contains symbols (symbol.End host.assoc first p)
    part_listed =
        let Keyed : End → Type 0 = λ end. Contains (key_props basis.schema.model end.ty) p in
        let found = pair_at first (subst Keyed (sym (other_end host.first_hosts assoc)) among) in
        let writing : SymbolWriting = link_fragment_writing host.first_hosts (if host.first_hosts then false else true) by.fragment in
        let Given : ColId × Symbol → Type 0 = Contains writing.cells in
        let t : TableId = by.fragment.table in
        let col : ColId = found.0.col in
        let lists = lists_written basis is (focus.Entity region) t col (symbol.End host.assoc first p)
        (written_listed (region_writings basis region) t col (symbol.End host.assoc first p) (record {
          writing = writing;
          is_writing = writing_there;
          to_table = refl;
          has_cell = subst Given (λ k. (col, symbol.End (by.of_assoc k) first (found.2 k))) (end_given host.first_hosts by.fragment found.0 found.1);
        })) in
        (t, col, lists.0, lists.1, lists.2)
