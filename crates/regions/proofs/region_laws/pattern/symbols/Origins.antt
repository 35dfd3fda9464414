-- Where the symbols of a pattern come from: the pairs of entity fragments and of link fragments, and conditions.
use Rattle.std.proofs.Common.{◌≡◌, ◌⊎◌, ⊎_elim, inl, inr, ◌==◌, ◌&&◌, List, [], ◌++◌, map, filter, flat_map, if◌then◌else◌, Bool, true, false, not, IsTrue, Any, Contains, Decides, refl, sym, ap, subst, ◌∙◌}
use Rattle.std.proofs.lemmas.Bool.{and_parts}
use Rattle.std.proofs.lemmas.Bool.Decides.{Decides-eqb, Decides-like}
use Rattle.std.proofs.lemmas.List.Elements.{Contains-append_cases}
use Rattle.emc_base.proofs.Numbered.{filter_contains, map_contains}
use Rattle.round_trip.specs.Words.{TableId, ColId, AssocId, Fragment, LinkFragment, Pair, Cond, CondOn, Test}
use Rattle.edm_types.specs.declared.mapping.CondOn.TheVariants as on
use Rattle.edm_types.specs.declared.mapping.Test.TheVariants.{IsNull, Equals}
use Rattle.member_groups.specs.Tested.{HasCondition}
use Rattle.schema_laws.proofs.state_demand.lists.Lists.{Decides-any, any_of, member_cases, member_of_flat_map, none_in_nil, of_any}
use Rattle.schema_laws.proofs.state_demand.lists.Ids.{Decides-assoc}
use Rattle.regions.specs.declared.region.Region.{Region}
use Rattle.regions.specs.declared.pattern.Symbol.{Symbol}
use Rattle.regions.specs.declared.pattern.Symbol.TheVariants as symbol
use Rattle.regions.specs.declared.pattern.Focus.{Focus}
use Rattle.regions.specs.declared.pattern.Focus.TheVariants as focus
use Rattle.regions.specs.Basis.{Basis, Host}
use Rattle.regions.specs.Patterns.{writings_of}
use Rattle.regions.specs.Symbols.{SymbolWriting, cond_symbols, conds_symbols, end_symbols, fragment_writing, fragments_of, host_writings, is_linked, link_fragment_writing, link_fragments_of, link_writings, region_writings, selects_region}
use Rattle.regions.proofs.region_laws.pattern.Cells.{IsWrittenSymbol}

-- the pairs at an end of a link fragment
abbrev pub side : Bool → LinkFragment → List Pair
side first fragment = if first then fragment.first else fragment.second

-- the fragment selects what the focus speaks of
abbrev pub IsChosen : Basis → Focus → Fragment → Type 0
IsChosen basis (focus.Entity region) fragment = (fragment.set ≡ region.set) × IsTrue (selects_region basis region fragment)
IsChosen basis (focus.Link a) fragment = ⊥

-- a link of the fragment's association is hosted at it by this end
abbrev pub IsHosting : Basis → Focus → Bool → LinkFragment → Type 0
IsHosting basis (focus.Entity region) first fragment = (host : Host) × Contains (basis.hosts region.set) host × Contains region.linked host.assoc
    × (fragment.assoc ≡ host.assoc) × (first ≡ host.first_hosts)
IsHosting basis (focus.Link a) first fragment = ⊥

-- this end is a partner's, or one of the link itself
abbrev pub IsPartner : Basis → Focus → Bool → LinkFragment → Type 0
IsPartner basis (focus.Entity region) first fragment = (host : Host) × Contains (basis.hosts region.set) host × Contains region.linked host.assoc
    × (fragment.assoc ≡ host.assoc) × (first ≡ not host.first_hosts)
IsPartner basis (focus.Link a) first fragment = fragment.assoc ≡ a

-- a condition writes the symbol
abbrev pub GivesSymbol : Test → Symbol → Type 0
GivesSymbol (IsNull asked) one = (asked ≡ true) × (one ≡ symbol.Null)
GivesSymbol (Equals constant) one = one ≡ symbol.Const constant

pub data From (basis : Basis) (focus : Focus) (t : TableId) (col : ColId) (one : Symbol) : Type 0 where
  by_pair : (fragment : Fragment) (pair : Pair) → Contains basis.schema.mapping.fragments fragment → fragment.table ≡ t → Contains fragment.pairs pair → pair.col ≡ col
      → one ≡ symbol.Prop pair.prop → IsChosen basis focus fragment → From basis focus t col one
  by_host : (fragment : LinkFragment) (first : Bool) (pair : Pair) → Contains basis.schema.mapping.links fragment → fragment.table ≡ t → Contains (side first fragment) pair
      → pair.col ≡ col → one ≡ symbol.Prop pair.prop → IsHosting basis focus first fragment → From basis focus t col one
  by_end : (fragment : LinkFragment) (first : Bool) (pair : Pair) → Contains basis.schema.mapping.links fragment → fragment.table ≡ t → Contains (side first fragment) pair
      → pair.col ≡ col → one ≡ symbol.End fragment.assoc first pair.prop → IsPartner basis focus first fragment → From basis focus t col one
  by_cond : (cond : Cond) → HasCondition basis.schema t cond → cond.on ≡ on.Col col → GivesSymbol cond.test one → From basis focus t col one

-- what a condition gives
cond_gives : (what : CondOn) (test : Test) (col : ColId) (one : Symbol) → Contains (cond_symbols what test) (col, one) → (what ≡ on.Col col) × GivesSymbol test one
cond_gives (on.Col c) (Equals constant) col one has = ⊎_elim
    (λ (is : (col, one) ≡ (c, symbol.Const constant)). ((λ k. on.Col (sym (ap (λ (cell : ColId × Symbol). cell.0) is) k)), ap (λ (cell : ColId × Symbol). cell.1) is))
    (λ (none : Contains {X = ColId × Symbol} [] (col, one)). absurd (none_in_nil {X = ColId × Symbol} (col, one) none))
    (member_cases {X = ColId × Symbol} (c, symbol.Const constant) [] (col, one) has)
cond_gives (on.Col c) (IsNull true) col one has = ⊎_elim
    (λ (is : (col, one) ≡ (c, symbol.Null)). ((λ k. on.Col (sym (ap (λ (cell : ColId × Symbol). cell.0) is) k)), (refl, ap (λ (cell : ColId × Symbol). cell.1) is)))
    (λ (none : Contains {X = ColId × Symbol} [] (col, one)). absurd (none_in_nil {X = ColId × Symbol} (col, one) none))
    (member_cases {X = ColId × Symbol} (c, symbol.Null) [] (col, one) has)
cond_gives (on.Col c) (IsNull false) col one has = absurd (none_in_nil {X = ColId × Symbol} (col, one) has)
cond_gives (on.Prop p) (Equals constant) col one has = absurd (none_in_nil {X = ColId × Symbol} (col, one) has)
cond_gives (on.Prop p) (IsNull true) col one has = absurd (none_in_nil {X = ColId × Symbol} (col, one) has)
cond_gives (on.Prop p) (IsNull false) col one has = absurd (none_in_nil {X = ColId × Symbol} (col, one) has)

conds_give : (conds : List Cond) (col : ColId) (one : Symbol) → Contains (conds_symbols conds) (col, one)
    → (cond : Cond) × Contains conds cond × (cond.on ≡ on.Col col) × GivesSymbol cond.test one
conds_give conds col one has =
    let found = member_of_flat_map (λ (cond : Cond). cond_symbols cond.on cond.test) conds (col, one) has in
    let gives = cond_gives found.0.on found.0.test col one found.2 in
    (found.0, found.1, gives.0, gives.1)

end_from : (assoc : AssocId) (first hosts : Bool) (pairs : List Pair) (col : ColId) (one : Symbol) → Contains (end_symbols assoc first hosts pairs) (col, one)
    → (pair : Pair) × Contains pairs pair × (pair.col ≡ col) × (one ≡ (if hosts then symbol.Prop pair.prop else symbol.End assoc first pair.prop))
end_from assoc first hosts pairs col one has =
    let made : Pair → ColId × Symbol = λ pair. (pair.col, if hosts then symbol.Prop pair.prop else symbol.End assoc first pair.prop) in
    let found = map_contains made pairs (col, one) has in
    (found.0, found.1, ap (λ (cell : ColId × Symbol). cell.0) found.2, sym (ap (λ (cell : ColId × Symbol). cell.1) found.2))

-- a symbol that a link fragment writes: by a pair of an end, or by a condition
pub link_from : (first_hosts second_hosts : Bool) (fragment : LinkFragment) (col : ColId) (one : Symbol)
    → Contains (link_fragment_writing first_hosts second_hosts fragment).cells (col, one)
    → ((first : Bool) × (pair : Pair) × Contains (side first fragment) pair × (pair.col ≡ col)
    × (one ≡ (if (if first then first_hosts else second_hosts) then symbol.Prop pair.prop else symbol.End fragment.assoc first pair.prop)))
    ⊎ ((cond : Cond) × Contains fragment.conds cond × (cond.on ≡ on.Col col) × GivesSymbol cond.test one)
link_from first_hosts second_hosts fragment col one has =
    let ones : List (ColId × Symbol) = end_symbols fragment.assoc true first_hosts fragment.first in
    let twos : List (ColId × Symbol) = end_symbols fragment.assoc false second_hosts fragment.second in
    ⊎_elim
    (λ (ends : Contains (ones ++ twos) (col, one)). ⊎_elim
    (λ (this : Contains ones (col, one)). let by = end_from fragment.assoc true first_hosts fragment.first col one this in inl (true, by.0, by.1, by.2, by.3))
    (λ (that : Contains twos (col, one)). let by = end_from fragment.assoc false second_hosts fragment.second col one that in inl (false, by.0, by.1, by.2, by.3))
    (Contains-append_cases ones twos (col, one) ends))
    (λ (asked : Contains (conds_symbols fragment.conds) (col, one)). inr (conds_give fragment.conds col one asked))
    (Contains-append_cases (ones ++ twos) (conds_symbols fragment.conds) (col, one) has)

-- which end writes what, where one of them hosts
which : (first first_hosts : Bool) (own partner one : Symbol)
    → one ≡ (if (if first then first_hosts else (if first_hosts then false else true)) then own else partner)
    → ((first ≡ first_hosts) × (one ≡ own)) ⊎ ((first ≡ not first_hosts) × (one ≡ partner))
which true true own partner one is = inl (refl, is)
which true false own partner one is = inr (refl, is)
which false true own partner one is = inr (refl, is)
which false false own partner one is = inl (refl, is)

neither : (first : Bool) (own partner one : Symbol) → one ≡ (if (if first then false else false) then own else partner) → one ≡ partner
neither true own partner one is = is
neither false own partner one is = is

module _ (basis : Basis) where
  -- a flag is told by the list of those that are true
  pub linked_decided : (linked : List AssocId) (a : AssocId) → Decides (is_linked basis linked a) (Contains linked a)
  linked_decided linked a = Decides-like (is_linked basis linked a)
      (λ (any : Any (λ b. b ≡ a) linked). let found = of_any (λ b. b ≡ a) linked any in subst (Contains linked) found.2 found.1)
      (λ has. any_of (λ b. b ≡ a) linked a has refl)
      (Decides-any (λ (b : AssocId). b.index == a.index) (λ b. b ≡ a) (λ b. Decides-assoc b a) linked)

  pub link_of : (a : AssocId) (fragment : LinkFragment) → Contains (link_fragments_of basis a) fragment → Contains basis.schema.mapping.links fragment × (fragment.assoc ≡ a)
  link_of a fragment has =
      let kept = filter_contains (λ (one : LinkFragment). one.assoc.index == a.index) basis.schema.mapping.links fragment has in
      (kept.0, (Decides-assoc fragment.assoc a).0 kept.1)

  -- what writes a region: a fragment that selects it, or a link fragment of an association that is hosted there
  abbrev pub IsRegionWriter : Region → SymbolWriting → Type 0
  IsRegionWriter region writing =
      ((fragment : Fragment) × Contains (fragments_of basis region) fragment × (fragment_writing fragment ≡ writing))
      ⊎ ((host : Host) × (fragment : LinkFragment) × Contains (basis.hosts region.set) host × Contains region.linked host.assoc
      × Contains (link_fragments_of basis host.assoc) fragment × (link_fragment_writing host.first_hosts (if host.first_hosts then false else true) fragment ≡ writing))

  pub region_writer : (region : Region) (writing : SymbolWriting) → Contains (region_writings basis region) writing → IsRegionWriter region writing
  region_writer region writing has =
      let linked : List Host = filter (λ host. is_linked basis region.linked host.assoc) (basis.hosts region.set) in
      ⊎_elim
      (λ (this : Contains (map fragment_writing (fragments_of basis region)) writing).
      let found = map_contains fragment_writing (fragments_of basis region) writing this in
      inl (found.0, found.1, found.2))
      (λ (that : Contains (flat_map (host_writings basis) linked) writing).
      let host = member_of_flat_map (host_writings basis) linked writing that in
      let kept = filter_contains (λ (one_host : Host). is_linked basis region.linked one_host.assoc) (basis.hosts region.set) host.0 host.1 in
      let made = link_fragment_writing host.0.first_hosts (if host.0.first_hosts then false else true) in
      let found = map_contains made (link_fragments_of basis host.0.assoc) writing host.2 in
      inr (host.0, found.0, kept.0, (linked_decided region.linked host.0.assoc).0 kept.1, found.1, found.2))
      (Contains-append_cases (map fragment_writing (fragments_of basis region)) (flat_map (host_writings basis) linked) writing has)

  pub chosen_of : (region : Region) (fragment : Fragment) → Contains (fragments_of basis region) fragment
      → Contains basis.schema.mapping.fragments fragment × IsChosen basis (focus.Entity region) fragment
  chosen_of region fragment has =
      let test : Fragment → Bool = λ f. (f.set.index == region.set.index) && selects_region basis region f in
      let kept = filter_contains test basis.schema.mapping.fragments fragment has in
      let parts = and_parts (fragment.set.index == region.set.index) (selects_region basis region fragment) kept.1 in
      let number = (Decides-eqb fragment.set.index region.set.index).0 parts.0 in
      let is_set : fragment.set ≡ region.set = λ k. record { index = number k } in
      (kept.0, (is_set, parts.1))

  module _ (region : Region) (t : TableId) (col : ColId) (one : Symbol) where
    from_fragment : (fragment : Fragment) → Contains (fragments_of basis region) fragment → fragment.table ≡ t → Contains (fragment_writing fragment).cells (col, one)
        → From basis (focus.Entity region) t col one
    from_fragment fragment has to cell =
        let chosen = chosen_of region fragment has in
        let made : Pair → ColId × Symbol = λ pair. (pair.col, symbol.Prop pair.prop) in
        ⊎_elim
        (λ (pairs : Contains (map made fragment.pairs) (col, one)).
        let found = map_contains made fragment.pairs (col, one) pairs in
        by_pair fragment found.0 chosen.0 to found.1 (ap (λ (cell : ColId × Symbol). cell.0) found.2) (sym (ap (λ (cell : ColId × Symbol). cell.1) found.2)) chosen.1)
        (λ (asked : Contains (conds_symbols fragment.conds) (col, one)).
        let by = conds_give fragment.conds col one asked in
        by_cond by.0 (inl (fragment, chosen.0, to, by.1)) by.2 by.3)
        (Contains-append_cases (map made fragment.pairs) (conds_symbols fragment.conds) (col, one) cell)

    from_host : (host : Host) → Contains (basis.hosts region.set) host → Contains region.linked host.assoc → (fragment : LinkFragment)
        → Contains (link_fragments_of basis host.assoc) fragment → fragment.table ≡ t
        → Contains (link_fragment_writing host.first_hosts (if host.first_hosts then false else true) fragment).cells (col, one) → From basis (focus.Entity region) t col one
    from_host host is_host linked fragment has to cell =
        let mapped = link_of host.assoc fragment has in
        ⊎_elim
        (λ (pairs : (first : Bool) × (pair : Pair) × Contains (side first fragment) pair × (pair.col ≡ col)
        × (one ≡ (if (if first then host.first_hosts else (if host.first_hosts then false else true)) then symbol.Prop pair.prop else symbol.End fragment.assoc first pair.prop))).
        ⊎_elim
        (λ (own : (pairs.0 ≡ host.first_hosts) × (one ≡ symbol.Prop pairs.1.prop)).
        by_host fragment pairs.0 pairs.1 mapped.0 to pairs.2 pairs.3 own.1 (host, is_host, linked, mapped.1, own.0))
        (λ (partner : (pairs.0 ≡ not host.first_hosts) × (one ≡ symbol.End fragment.assoc pairs.0 pairs.1.prop)).
        by_end fragment pairs.0 pairs.1 mapped.0 to pairs.2 pairs.3 partner.1 (host, is_host, linked, mapped.1, partner.0))
        (which pairs.0 host.first_hosts (symbol.Prop pairs.1.prop) (symbol.End fragment.assoc pairs.0 pairs.1.prop) one pairs.4))
        (λ (asked : (cond : Cond) × Contains fragment.conds cond × (cond.on ≡ on.Col col) × GivesSymbol cond.test one).
        by_cond asked.0 (inr (fragment, mapped.0, to, asked.1)) asked.2 asked.3)
        (link_from host.first_hosts (if host.first_hosts then false else true) fragment col one cell)

    region_from : IsWrittenSymbol (region_writings basis region) t col one → From basis (focus.Entity region) t col one
    region_from by = from_writer (region_writer region by.writing by.is_writing)
      where
        from_writer : IsRegionWriter region by.writing → From basis (focus.Entity region) t col one
        from_writer (inl (fragment, has, is)) =
            from_fragment fragment has (ap (λ (w : SymbolWriting). w.table) is ∙ by.to_table) (subst (λ (w : SymbolWriting). Contains w.cells (col, one)) (sym is) by.has_cell)
        from_writer (inr (host, fragment, is_host, linked, has, is)) = from_host host is_host linked fragment has (ap (λ (w : SymbolWriting). w.table) is ∙ by.to_table)
            (subst (λ (w : SymbolWriting). Contains w.cells (col, one)) (sym is) by.has_cell)

  module _ (a : AssocId) (t : TableId) (col : ColId) (one : Symbol) where
    link_focus_from : IsWrittenSymbol (link_writings basis a) t col one → From basis (focus.Link a) t col one
    link_focus_from by =
        let found = map_contains (link_fragment_writing false false) (link_fragments_of basis a) by.writing by.is_writing in
        let fragment : LinkFragment = found.0 in
        let mapped = link_of a fragment found.1 in
        let to : fragment.table ≡ t = ap (λ (w : SymbolWriting). w.table) found.2 ∙ by.to_table in
        ⊎_elim
        (λ (pairs : (first : Bool) × (pair : Pair) × Contains (side first fragment) pair × (pair.col ≡ col)
        × (one ≡ (if (if first then false else false) then symbol.Prop pair.prop else symbol.End fragment.assoc first pair.prop))).
        by_end fragment pairs.0 pairs.1 mapped.0 to pairs.2 pairs.3
        (neither pairs.0 (symbol.Prop pairs.1.prop) (symbol.End fragment.assoc pairs.0 pairs.1.prop) one pairs.4) mapped.1)
        (λ (asked : (cond : Cond) × Contains fragment.conds cond × (cond.on ≡ on.Col col) × GivesSymbol cond.test one).
        by_cond asked.0 (inr (fragment, mapped.0, to, asked.1)) asked.2 asked.3)
        (link_from false false fragment col one (subst (λ (w : SymbolWriting). Contains w.cells (col, one)) (sym found.2) by.has_cell))

  -- whence a symbol is
  pub is_from : (of : Focus) (t : TableId) (col : ColId) (one : Symbol) → IsWrittenSymbol (writings_of basis of) t col one → From basis of t col one
  is_from (focus.Entity region) t col one by = region_from region t col one by
  is_from (focus.Link a) t col one by = link_focus_from a t col one by
