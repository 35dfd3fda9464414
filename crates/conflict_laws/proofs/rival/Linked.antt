-- An end of a link that one region's pattern lists is listed by that of another with the same links.
use Rattle.std.proofs.Common.{◌≡◌, ◌++◌, ◌==◌, List, filter, flat_map, map, if◌then◌else◌, Bool, true, false, not, Contains, sym, subst, ◌∙◌}
use Rattle.std.proofs.lemmas.List.Elements.{Contains-append_left, Contains-append_right}
use Rattle.emc_base.proofs.Mapped.{contains_filter, contains_map}
use Rattle.round_trip.specs.Words.{SetId, TableId, ColId, AssocId, PropId, LinkFragment, Pair}
use Rattle.schema_laws.proofs.state_demand.lists.Lists.{contains_flat_map}
use Rattle.regions.specs.declared.region.Region.{Region}
use Rattle.regions.specs.declared.pattern.Symbol.{Symbol}
use Rattle.regions.specs.declared.pattern.Symbol.TheVariants as symbol
use Rattle.regions.specs.declared.pattern.Focus.TheVariants as focus
use Rattle.regions.specs.Basis.{Basis, Host}
use Rattle.regions.specs.Patterns.{cell_symbols, pattern_of}
use Rattle.regions.specs.Regions.{regions_of}
use Rattle.regions.specs.Symbols.{SymbolWriting, conds_symbols, end_symbols, fragment_writing, fragments_of, host_writings, is_linked, link_fragment_writing, link_fragments_of, region_writings}
use Rattle.regions.specs.region_laws.IsBasis.{IsBasis}
use Rattle.schema_laws.proofs.state_demand.lists.Ids.{Decides-assoc}
use Rattle.regions.specs.region_laws.pattern.Listed.{HasCell, Lists}
use Rattle.regions.proofs.region_laws.pattern.Cells.{cell_of as made_cell, written_listed}
use Rattle.regions.proofs.region_laws.pattern.Laws.{listed_from}
use Rattle.regions.proofs.region_laws.pattern.symbols.Origins.{linked_decided, side}
use Rattle.regions.proofs.region_laws.pattern.types.Regions.{parts_of}
use Rattle.regions.proofs.region_laws.pattern.symbols.Standing.{IsEndOf, end_of}

-- where one end hosts, each pair of the other gives its column an end
end_given : (hosts first : Bool) (fragment : LinkFragment) (pair : Pair) → first ≡ not hosts → Contains (side first fragment) pair
    → Contains (link_fragment_writing hosts (if hosts then false else true) fragment).cells (pair.col, symbol.End fragment.assoc first pair.prop)
end_given true true fragment pair other among = cc
end_given true false fragment pair other among =
    let ones : List (ColId × Symbol) = end_symbols fragment.assoc true true fragment.first in
    let twos : List (ColId × Symbol) = end_symbols fragment.assoc false false fragment.second in
    let given : Pair → ColId × Symbol = λ one. (one.col, symbol.End fragment.assoc false one.prop) in
    Contains-append_left {X = ColId × Symbol} (ones ++ twos) (conds_symbols fragment.conds) (given pair)
    (Contains-append_right {X = ColId × Symbol} ones twos (given pair) (contains_map given fragment.second pair among))
end_given false true fragment pair other among =
    let ones : List (ColId × Symbol) = end_symbols fragment.assoc true false fragment.first in
    let twos : List (ColId × Symbol) = end_symbols fragment.assoc false true fragment.second in
    let given : Pair → ColId × Symbol = λ one. (one.col, symbol.End fragment.assoc true one.prop) in
    Contains-append_left {X = ColId × Symbol} (ones ++ twos) (conds_symbols fragment.conds) (given pair)
    (Contains-append_left {X = ColId × Symbol} ones twos (given pair) (contains_map given fragment.first pair among))
end_given false false fragment pair other among = cc

module _ (basis : Basis) (is : IsBasis basis) (s : SetId) (region other : Region) (has : Contains (regions_of basis s) region) (has_other : Contains (regions_of basis s) other)
    (linked : region.linked ≡ other.linked) (t : TableId) (c : ColId) (a : AssocId) (first : Bool) (p : PropId) where
  -- the host of the link writes it in both
  end_listed : IsEndOf basis (focus.Entity other) t c a first p → Contains (cell_symbols (region_writings basis region) t c) (symbol.End a first p)
  end_listed by =
      let host : Host = by.partner.0 in
      let hosted : List Host = filter (λ (one : Host). is_linked basis region.linked one.assoc) (basis.hosts region.set) in
      let writing : SymbolWriting = link_fragment_writing host.first_hosts (if host.first_hosts then false else true) by.fragment in
      let same_set : other.set ≡ region.set = (parts_of basis s other has_other).of_set ∙ sym (parts_of basis s region has).of_set in
      let is_host : Contains (basis.hosts region.set) host = subst (λ one. Contains (basis.hosts one) host) same_set by.partner.1 in
      let there : Contains region.linked host.assoc = subst (λ list. Contains list host.assoc) (sym linked) by.partner.2 in
      let among : Contains hosted host = contains_filter (λ (one : Host). is_linked basis region.linked one.assoc) (basis.hosts region.set) host is_host
      ((linked_decided basis region.linked host.assoc).1 there) in
      let of_host : Contains (link_fragments_of basis host.assoc) by.fragment =
      contains_filter (λ (one : LinkFragment). one.assoc.index == host.assoc.index) basis.schema.mapping.links by.fragment by.mapped
      ((Decides-assoc by.fragment.assoc host.assoc).1 by.partner.3) in
      let made : Contains (host_writings basis host) writing =
      contains_map (link_fragment_writing host.first_hosts (if host.first_hosts then false else true)) (link_fragments_of basis host.assoc) by.fragment of_host in
      written_listed (region_writings basis region) t c (symbol.End a first p) (record {
        writing = writing;
        is_writing = Contains-append_right (map fragment_writing (fragments_of basis region)) (flat_map (host_writings basis) hosted) writing
            (contains_flat_map (host_writings basis) hosted host writing among made);
        to_table = by.to_table;
        has_cell = (let Given : ColId × Symbol → Type 0 = Contains writing.cells in
            subst Given (λ k. (by.at_col k, symbol.End (by.of_assoc k) first (by.at_prop k)))
            (end_given host.first_hosts first by.fragment by.pair by.partner.4 by.paired));
      })

  -- so the other's cell lists it
  pub end_too : (cell : List Symbol) → HasCell (pattern_of basis (focus.Entity region)) t c cell → Lists (pattern_of basis (focus.Entity other)) t c (symbol.End a first p)
      → Contains cell (symbol.End a first p)
  end_too cell at lists =
      subst (λ list. Contains list (symbol.End a first p)) (sym (made_cell basis.schema.store (region_writings basis region) t c cell at).is)
      (end_listed (end_of basis (focus.Entity other) t c a first p (listed_from basis is (focus.Entity other) t c (symbol.End a first p) lists)))
