-- A region that leaves no row: a property of it that may have several values is lost; where there is none it has one entity for each key.
use Rattle.std.proofs.Common.{◌≡◌, ◌&&◌, ◌==◌, [], ◌∷◌, List, Bool, true, false, true≢false, not, map, filter, flat_map, Contains, IsTrue, Some, None, refl, sym, ap, subst, if◌then◌else◌}
use Rattle.std.specs.List.{list_any}
use Rattle.std.proofs.lemmas.Bool.{and_from, and_parts, false_from_ne_true, not_from_false}
use Rattle.std.proofs.lemmas.List.Elements.{Contains-append_right}
use Rattle.emc_base.proofs.Mapped.{contains_filter, contains_map}
use Rattle.round_trip.specs.Words.{TableId, AssocId, PropId, LinkFragment, Value, key_props, props_of}
use Rattle.schema_laws.proofs.state_demand.lists.Lists.{any_of, contains_flat_map, head_stands, none_in_nil}
use Rattle.regions.specs.declared.region.Region.{Region}
use Rattle.regions.specs.declared.pattern.Focus.TheVariants as focus
use Rattle.regions.specs.declared.pattern.Pattern.{Pattern}
use Rattle.regions.specs.declared.pattern.PatternRow.{PatternRow}
use Rattle.regions.specs.declared.pattern.Symbol.{Symbol}
use Rattle.regions.specs.declared.pattern.Symbol.TheVariants as symbol
use Rattle.regions.specs.Basis.{Basis, Host}
use Rattle.regions.specs.Patterns.{is_written, pattern_of}
use Rattle.regions.specs.Settled.{Possible, multi, possible, single}
use Rattle.regions.specs.Symbols.{SymbolWriting, fragment_writing, fragments_of, host_writings, is_linked, link_fragment_writing, link_fragments_of, region_writings}
use Rattle.regions.specs.region_laws.IsBasis.{IsBasis, IsHostOf}
use Rattle.regions.proofs.region_laws.writings.Cells.{Decides-written}
use Rattle.regions.proofs.region_laws.listing.Listed.{set_is}
use Rattle.regions.proofs.region_laws.listing.Possible.{linked_hosts}
use Rattle.schema_laws.proofs.state_demand.lists.Ids.{Decides-assoc}
use Rattle.regions.proofs.region_laws.pattern.Choices.{found_passes, none_passes}
use Rattle.regions.proofs.region_laws.pattern.symbols.Origins.{linked_decided}
use Rattle.region_states.specs.focus.Held.{HasRow}
use Rattle.region_states.proofs.focus.Listed.{has_row}
use Rattle.schema_laws.proofs.short_values.Places.{Decides-among}
use Rattle.region_states.specs.conflicts.Facts.{lists}
use Rattle.region_states.specs.conflicts.SameFacts.{is_absent, is_lost, is_multi, is_one_of, lists_anywhere}
use Rattle.host_states.specs.Hosting.{HasOneEntityPerKey}
use Rattle.conflict_laws.specs.same.SameValues.{first_several, may_differ}
use Rattle.conflict_laws.specs.Told.{AbsentRegion}

-- a pattern that has no row has the empty list of them
no_rows : (pattern : Pattern) → IsTrue (not (list_any (λ (row : PatternRow). true) pattern.rows)) → pattern.rows ≡ []
no_rows pattern told = by pattern.rows told
  where
    by : (list : List PatternRow) → not (list_any (λ (row : PatternRow). true) list) ≡ true → list ≡ []
    by [] none = refl
    by (row ∷ rest) none = absurd (true≢false (sym none))

-- a region that leaves no row
pub absent_rows : (basis : Basis) (region : Region) → IsTrue (is_absent basis region) → (pattern_of basis (focus.Entity region)).rows ≡ []
absent_rows basis region told = no_rows (pattern_of basis (focus.Entity region)) told

module _ (basis : Basis) (at : AbsentRegion basis) where
  -- it lists no symbol
  lists_nothing : (one : Symbol) → lists_anywhere (pattern_of basis (focus.Entity at.region)) one ≡ false
  lists_nothing one = ap (list_any (λ (row : PatternRow). list_any (λ cell. lists cell one) row.cells)) (absent_rows basis at.region at.absent)

  -- and so a property that may have several values is lost
  pub several_lost : (p : PropId) → first_several basis at.region ≡ Some p → IsTrue (is_lost basis at.region p)
  several_lost p found =
      let props : List PropId = props_of basis.schema.model at.region.ty in
      let passes = found_passes (may_differ basis at.region) props p found in
      let no_key : Bool = not (is_one_of p (key_props basis.schema.model at.region.ty)) in
      let several : Bool = is_multi (possible basis.schema.model at.region.atoms (symbol.Prop p)) in
      let listed : Bool = lists_anywhere (pattern_of basis (focus.Entity at.region)) (symbol.Prop p) in
      let both = and_parts no_key several passes.1 in
      and_from ((is_one_of p props && no_key) && several) (not listed)
      (and_from (is_one_of p props && no_key) several (and_from (is_one_of p props) no_key ((Decides-among props p).1 passes.0) both.0) both.1)
      (not_from_false listed (lists_nothing (symbol.Prop p)))

  -- no row of it is there
  pub never_row : (t : TableId) → ¬ HasRow (pattern_of basis (focus.Entity at.region)) t
  never_row t (row, has, to) = none_in_nil row (subst (λ list. Contains list row) (absent_rows basis at.region at.absent) has)

module _ (basis : Basis) (is : IsBasis basis) (at : AbsentRegion basis) where
  -- a flag gives a row
  flag_row : (a : AssocId) → Contains at.region.linked a → (t : TableId) × HasRow (pattern_of basis (focus.Entity at.region)) t
  flag_row a linked =
      let found = linked_hosts basis is at.s at.region at.listed a linked in
      let host : Host = found.0 in
      let by : IsHostOf basis.schema at.s host = (is.hosts at.s host).0 found.1 in
      let in_set : Contains (basis.hosts at.region.set) host = subst (λ u. Contains (basis.hosts u) host) (sym (set_is basis at.s at.region at.listed)) found.1 in
      let is_there : Host → Bool = λ one. is_linked basis at.region.linked one.assoc in
      let flagged : is_there host ≡ true = (linked_decided basis at.region.linked host.assoc).1 (subst (Contains at.region.linked) found.2 linked) in
      let write : LinkFragment → SymbolWriting = link_fragment_writing host.first_hosts (if host.first_hosts then false else true) in
      let chosen : Contains (link_fragments_of basis host.assoc) by.fragment =
      contains_filter (λ (fragment : LinkFragment). fragment.assoc.index == host.assoc.index) basis.schema.mapping.links by.fragment by.is_fragment
      ((Decides-assoc by.fragment.assoc host.assoc).1 by.of_assoc) in
      let hosts_there : Contains (filter is_there (basis.hosts at.region.set)) host = contains_filter is_there (basis.hosts at.region.set) host in_set flagged in
      let written : Contains (region_writings basis at.region) (write by.fragment) =
      Contains-append_right (map fragment_writing (fragments_of basis at.region)) (flat_map (host_writings basis) (filter is_there (basis.hosts at.region.set))) (write by.fragment)
      (contains_flat_map (host_writings basis) (filter is_there (basis.hosts at.region.set)) host (write by.fragment) hosts_there
      (contains_map write (link_fragments_of basis host.assoc) by.fragment chosen)) in
      let told : IsTrue (is_written (region_writings basis at.region) by.fragment.table) =
      (Decides-written (region_writings basis at.region) by.fragment.table).1
      (any_of (λ (one : SymbolWriting). one.table ≡ by.fragment.table) (region_writings basis at.region) (write by.fragment) written refl) in
      (by.fragment.table, (has_row basis is (focus.Entity at.region) by.fragment.table).0 told)

  -- and so a region without rows has no flag, and where no property may have several values it has one entity for each key
  pub one_per_key : first_several basis at.region ≡ None → HasOneEntityPerKey basis at.region
  one_per_key none = record { no_links = by at.region.linked refl; single = single_value }
    where
      by : (linked : List AssocId) → at.region.linked ≡ linked → at.region.linked ≡ []
      by [] same = same
      by (a ∷ rest) same =
          let row = flag_row a (subst (λ list. Contains list a) (sym same) (head_stands a rest)) in
          absurd (never_row basis at row.0 row.1)

      single_value : (p : PropId) → Contains (props_of basis.schema.model at.region.ty) p → ¬ Contains (key_props basis.schema.model at.region.ty) p
          → (value : Value) × (possible basis.schema.model at.region.atoms (symbol.Prop p) ≡ single value)
      single_value p among no_key = go (possible basis.schema.model at.region.atoms (symbol.Prop p)) refl
        where
          go : (can : Possible) → possible basis.schema.model at.region.atoms (symbol.Prop p) ≡ can
              → (value : Value) × (possible basis.schema.model at.region.atoms (symbol.Prop p) ≡ single value)
          go (single value) same = (value, same)
          go (multi nullable) same =
              let is_key : Bool = is_one_of p (key_props basis.schema.model at.region.ty) in
              let several : Bool = is_multi (possible basis.schema.model at.region.atoms (symbol.Prop p)) in
              absurd (none_passes (may_differ basis at.region) (props_of basis.schema.model at.region.ty) p none among (and_from (not is_key) several
              (not_from_false is_key (false_from_ne_true is_key (λ told. no_key ((Decides-among (key_props basis.schema.model at.region.ty) p).0 told))))
              (ap is_multi same)))
