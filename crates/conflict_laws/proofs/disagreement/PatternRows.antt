-- The row of a table in a pattern: there is one at most, and the tables of a region's fragments have theirs.
use Rattle.std.proofs.Common.{◌≡◌, ◌↔◌, ℕ, ◌<◌, ◌==◌, ◌&&◌, List, map, filter, flat_map, get_or, if◌then◌else◌, Bool, true, false, Any, Contains, Decides, IsTrue, refl, sym, ap, subst, ◌∙◌, arith}
use Rattle.std.specs.List.{list_any}
use Rattle.std.proofs.lemmas.Bool.{and_from}
use Rattle.std.proofs.lemmas.Bool.Decides.{Decides-and, Decides-eqb}
use Rattle.std.proofs.lemmas.List.Elements.{Contains-append_left, Contains-append_right}
use Rattle.emc_base.proofs.Mapped.{contains_filter, contains_map}
use Rattle.round_trip.specs.Words.{SetId, TableId, AssocId, Fragment, LinkFragment}
use Rattle.schema_laws.proofs.state_demand.lists.Lists.{Decides-any, any_of, contains_flat_map, of_any, same_by_key}
use Rattle.regions.specs.declared.region.Region.{Region}
use Rattle.regions.specs.declared.pattern.PatternRow.{PatternRow}
use Rattle.regions.specs.declared.pattern.Focus.{Focus}
use Rattle.regions.specs.declared.pattern.Focus.TheVariants as focus
use Rattle.regions.specs.Basis.{Basis, Host}
use Rattle.regions.specs.Patterns.{pattern_of, writings_of}
use Rattle.regions.specs.Symbols.{SymbolWriting, fragment_writing, fragments_of, host_writings, is_linked, link_fragment_writing, link_fragments_of, region_writings, selects_region}
use Rattle.regions.specs.region_laws.IsBasis.{IsBasis}
use Rattle.regions.proofs.region_laws.writings.Cells.{Decides-table, Decides-written}
use Rattle.regions.proofs.region_laws.writings.Rows.{rows_order}
use Rattle.schema_laws.proofs.state_demand.lists.Ids.{Decides-assoc}
use Rattle.region_states.specs.focus.Held.{HasRow}
use Rattle.region_states.proofs.focus.Listed.{has_row}

module _ (basis : Basis) (of : Focus) where
  abbrev rows : List PatternRow
  rows = (pattern_of basis of).rows

  -- a pattern has one row of a table
  pub one_row : (one two : PatternRow) → Contains rows one → Contains rows two → one.table ≡ two.table → one ≡ two
  one_row one two has_one has_two same =
      let number : PatternRow → ℕ = λ row. row.table.index in
      same_by_key number rows one two (λ i j d below within alike.
      let less : number (get_or rows i d) < number (get_or rows j d) = rows_order basis.schema.store (writings_of basis of) i j d below within in
      absurd (omega (arith, less, alike))) has_one has_two (ap (λ (t : TableId). t.index) same)

  module _ (t : TableId) (shows : PatternRow → Bool) where
    -- some row of the table is shown
    abbrev some_shown : Bool
    some_shown = list_any (λ row. (row.table.index == t.index) && shows row) rows

    abbrev IsShown : PatternRow → Type 0
    IsShown row = (row.table ≡ t) × IsTrue (shows row)

    -- the answer tells of a row of the table that is shown
    decides : Decides some_shown (Any IsShown rows)
    decides = Decides-any (λ (row : PatternRow). (row.table.index == t.index) && shows row) IsShown
        (λ row. Decides-and (row.table.index == t.index) (shows row) (Decides-table row.table t) ((λ so. so), λ so. so)) rows

    -- so there is a row of the table
    pub shown_row : IsTrue some_shown → HasRow (pattern_of basis of) t
    shown_row told = let found = of_any IsShown rows (decides.0 told) in (found.0, found.1, found.2.0)

    -- and some row of the table is shown just where this row is
    pub shown_by : (row : PatternRow) → Contains rows row → row.table ≡ t → IsTrue some_shown ↔ IsTrue (shows row)
    shown_by row has to = (
      (λ told.
          let found = of_any IsShown rows (decides.0 told) in
          let P : PatternRow → Type 0 = λ one. IsTrue (shows one) in
          subst P (one_row found.0 row found.1 has (found.2.0 ∙ sym to)) found.2.1),
      (λ told. decides.1 (any_of IsShown rows row has (to, told))),
    )

module _ (basis : Basis) (is : IsBasis basis) (region : Region) where
  -- the table of each writing has a row
  written_row : (writing : SymbolWriting) → Contains (region_writings basis region) writing → HasRow (pattern_of basis (focus.Entity region)) writing.table
  written_row writing has = (has_row basis is (focus.Entity region) writing.table).0
      ((Decides-written (region_writings basis region) writing.table).1
      (any_of (λ (one : SymbolWriting). one.table ≡ writing.table) (region_writings basis region) writing has refl))

  abbrev linked : List Host
  linked = filter (λ host. is_linked basis region.linked host.assoc) (basis.hosts region.set)

  -- so has that of a fragment that selects the region
  pub selected_row : (fragment : Fragment) → Contains basis.schema.mapping.fragments fragment → fragment.set ≡ region.set → IsTrue (selects_region basis region fragment)
      → HasRow (pattern_of basis (focus.Entity region)) fragment.table
  selected_row fragment mapped of_set told =
      let test : Fragment → Bool = λ f. (f.set.index == region.set.index) && selects_region basis region f in
      let number : fragment.set.index ≡ region.set.index = ap (λ (s : SetId). s.index) of_set in
      let chosen : Contains (fragments_of basis region) fragment = contains_filter test basis.schema.mapping.fragments fragment mapped
      (and_from (fragment.set.index == region.set.index) (selects_region basis region fragment) ((Decides-eqb fragment.set.index region.set.index).1 number) told) in
      written_row (fragment_writing fragment)
      (Contains-append_left (map fragment_writing (fragments_of basis region)) (flat_map (host_writings basis) linked) (fragment_writing fragment)
      (contains_map fragment_writing (fragments_of basis region) fragment chosen))

  -- and that of a link fragment, where a link is there
  pub linked_row : (host : Host) → Contains (basis.hosts region.set) host → (fragment : LinkFragment) → Contains basis.schema.mapping.links fragment
      → fragment.assoc ≡ host.assoc → IsTrue (is_linked basis region.linked fragment.assoc) → HasRow (pattern_of basis (focus.Entity region)) fragment.table
  linked_row host hosts fragment mapped of_assoc told =
      let made : LinkFragment → SymbolWriting = link_fragment_writing host.first_hosts (if host.first_hosts then false else true) in
      let L : AssocId → Type 0 = λ a. IsTrue (is_linked basis region.linked a) in
      let host_among : Contains linked host = contains_filter (λ (one : Host). is_linked basis region.linked one.assoc) (basis.hosts region.set) host hosts
      (subst L of_assoc told) in
      let among : Contains (link_fragments_of basis host.assoc) fragment = contains_filter (λ (one : LinkFragment). one.assoc.index == host.assoc.index)
      basis.schema.mapping.links fragment mapped ((Decides-assoc fragment.assoc host.assoc).1 of_assoc) in
      written_row (made fragment)
      (Contains-append_right (map fragment_writing (fragments_of basis region)) (flat_map (host_writings basis) linked) (made fragment)
      (contains_flat_map (host_writings basis) linked host (made fragment) host_among (contains_map made (link_fragments_of basis host.assoc) fragment among)))
