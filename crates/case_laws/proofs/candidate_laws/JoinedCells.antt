-- The case of a joined association shows just the parts of both keys, each in the column of its pair.
use Rattle.std.proofs.Common.{◌≡◌, ◌==◌, ℕ, ◌++◌, ◌∷◌, [], List, Bool, true, false, Contains, Some, if◌then◌else◌, option_map, refl, sym, ap, subst, slice_get, ◌∙◌}
use Rattle.std.proofs.lemmas.List.Elements.{All-contains, Contains-append_left, Contains-append_right}
use Rattle.emc_base.proofs.Lists.{only_member, only_stands}
use Rattle.emc_base.proofs.Mapped.{contains_filter, contains_map}
use Rattle.round_trip.specs.Words.{TableId, ColId, AssocId, PropId, Assoc, At, EntityModel, LinkFragment, Pair, key_columns}
use Rattle.schema_laws.specs.state_demand.Owners.{IsJoinedTo}
use Rattle.schema_laws.specs.state_demand.WellWritten.{cols_of}
use Rattle.schema_laws.proofs.state_demand.lists.Ids.{Decides-assoc}
use Rattle.schema_laws.proofs.state_demand.lists.Lists.{head_stands}
use Rattle.regions.specs.declared.pattern.Focus.{Focus}
use Rattle.regions.specs.declared.pattern.Focus.TheVariants as focus
use Rattle.regions.specs.declared.pattern.PatternRow.{PatternRow}
use Rattle.regions.specs.declared.pattern.Symbol.{Symbol}
use Rattle.regions.specs.declared.pattern.Symbol.TheVariants as symbol
use Rattle.regions.specs.Basis.{Basis}
use Rattle.regions.specs.Patterns.{pattern_of}
use Rattle.regions.specs.Settled.{Possible, Settled, free, known, multi, possible, settle, settled_by, single}
use Rattle.regions.specs.Symbols.{conds_symbols, end_symbols, link_fragment_writing, link_fragments_of, link_writings}
use Rattle.regions.specs.region_laws.IsBasis.{IsBasis}
use Rattle.regions.specs.region_laws.pattern.Listed.{HasCell, IsEndCell, Lists}
use Rattle.regions.proofs.region_laws.pattern.Cells.{written_listed}
use Rattle.regions.proofs.region_laws.pattern.Keys.{end_cell}
use Rattle.regions.proofs.region_laws.pattern.Laws.{listed_from}
use Rattle.regions.proofs.region_laws.pattern.symbols.Hosting.{side_among}
use Rattle.regions.proofs.region_laws.pattern.symbols.Origins.{side}
use Rattle.regions.proofs.region_laws.pattern.symbols.Standing.{IsEndOf, end_of}
use Rattle.region_states.proofs.focus.Listed.{lists_written}
use Rattle.region_states.proofs.joined_laws.OneRow.{joined_row}
use Rattle.case_laws.specs.declared.region_cases.link_case.LinkCase.{LinkCase}
use Rattle.case_laws.specs.declared.region_cases.link_case.LinkCaseCell.{LinkCaseCell}
use Rattle.case_laws.specs.declared.region_cases.link_case.LinkCaseCell.TheVariants as cell
use Rattle.case_laws.specs.region_cases.Links.{end_by_settled, link_case_of, link_cell, link_row}
use Rattle.case_laws.specs.Reading.{DecidesFree}
use Rattle.case_laws.proofs.lists.Placed.{made_at, made_from}
use Rattle.case_laws.proofs.shown.Settling.{answered, chosen_other, side_named}

-- each pair of either end gives its column a part of that end's key
end_given : (first : Bool) (fragment : LinkFragment) (pair : Pair) → Contains (side first fragment) pair
    → Contains (link_fragment_writing false false fragment).cells (pair.col, symbol.End fragment.assoc first pair.prop)
end_given true fragment pair among =
    let ones : List (ColId × Symbol) = end_symbols fragment.assoc true false fragment.first in
    let twos : List (ColId × Symbol) = end_symbols fragment.assoc false false fragment.second in
    let given : Pair → ColId × Symbol = λ one. (one.col, symbol.End fragment.assoc true one.prop) in
    Contains-append_left {X = ColId × Symbol} (ones ++ twos) (conds_symbols fragment.conds) (given pair)
    (Contains-append_left {X = ColId × Symbol} ones twos (given pair) (contains_map given fragment.first pair among))
end_given false fragment pair among =
    let ones : List (ColId × Symbol) = end_symbols fragment.assoc true false fragment.first in
    let twos : List (ColId × Symbol) = end_symbols fragment.assoc false false fragment.second in
    let given : Pair → ColId × Symbol = λ one. (one.col, symbol.End fragment.assoc false one.prop) in
    Contains-append_left {X = ColId × Symbol} (ones ++ twos) (conds_symbols fragment.conds) (given pair)
    (Contains-append_right {X = ColId × Symbol} ones twos (given pair) (contains_map given fragment.second pair among))

-- an end that is shown is that of the first symbol
end_settled : (settled : Settled) (first : Bool) (p : PropId) → end_by_settled settled ≡ cell.End first p → (a : AssocId) × (n : Bool) × (settled ≡ free (symbol.End a first p) n)
end_settled (known value) first p is = cc
end_settled (free symbol.Null n) first p is = cc
end_settled (free (symbol.Const value) n) first p is = cc
end_settled (free (symbol.Prop q) n) first p is = cc
end_settled (free (symbol.End a other q) n) first p is =
    let ends : other ≡ first = cc in let props : q ≡ p = cc in (a, n, λ k. free (symbol.End a (ends k) (props k)) n)

free_first : (model : EntityModel) (symbols : List Symbol) (one : Symbol) (n : Bool) → settle model [] symbols ≡ free one n → Contains symbols one
free_first model [] one n is = absurd (let never : ⊥ = cc in never)
free_first model (first ∷ rest) one n is = by (possible model [] first) is
  where
    by : (can : Possible) → settled_by first can ≡ free one n → Contains (first ∷ rest) one
    by (single value) told = absurd (let never : ⊥ = cc in never)
    by (multi nullable) told = let same : first ≡ one = cc in subst (Contains (first ∷ rest)) same (head_stands first rest)

module _ (is_free : TableId → ColId → Bool) (basis : Basis) (is : IsBasis basis) (decides : DecidesFree basis.schema is_free) (t : TableId) (fragment : LinkFragment) (assoc : Assoc)
    (joined : IsJoinedTo basis.schema t fragment assoc) where
  abbrev Of : Focus
  Of = focus.Link fragment.assoc

  abbrev row : PatternRow
  row = (joined_row basis is t fragment assoc joined).0

  pub rows_are : (pattern_of basis Of).rows ≡ row ∷ []
  rows_are = (joined_row basis is t fragment assoc joined).1

  abbrev pub the_case : LinkCase
  the_case = link_row is_free basis.schema.model fragment.assoc row

  pub is_case : link_case_of is_free basis fragment.assoc ≡ Some the_case
  is_case = ap (λ rows. option_map (link_row is_free basis.schema.model fragment.assoc) (slice_get rows 0)) rows_are

  pub of_table : the_case.table ≡ t
  of_table = (joined_row basis is t fragment assoc joined).2

  abbrev told : ℕ × List Symbol → LinkCaseCell
  told placed = link_cell is_free basis.schema.model row.table (record { index = placed.0 }) placed.1

  module _ (first : Bool) (pair : Pair) (among : Contains (side first fragment) pair) where
    abbrev one : Symbol
    one = symbol.End fragment.assoc first pair.prop

    listed : Lists (pattern_of basis Of) t pair.col one
    listed =
        let chosen : Contains (link_fragments_of basis fragment.assoc) fragment = contains_filter (λ (other : LinkFragment). other.assoc.index == fragment.assoc.index)
        basis.schema.mapping.links fragment joined.is_fragment ((Decides-assoc fragment.assoc fragment.assoc).1 refl) in
        lists_written basis is Of t pair.col one (written_listed (link_writings basis fragment.assoc) t pair.col one (record {
          writing = link_fragment_writing false false fragment;
          is_writing = contains_map (link_fragment_writing false false) (link_fragments_of basis fragment.assoc) fragment chosen;
          to_table = joined.to_table;
          has_cell = end_given first fragment pair among;
        }))

    -- the column is in the primary key, so the part stands there alone
    alone : listed.0 ≡ one ∷ []
    alone =
        let key : Contains (key_columns basis.schema.store t) pair.col = All-contains (Contains (key_columns basis.schema.store t)) (cols_of (fragment.first ++ fragment.second)) pair.col
        joined.whole (contains_map (λ (other : Pair). other.col) (fragment.first ++ fragment.second) pair (side_among first fragment pair among)) in
        let lone : IsEndCell basis.schema fragment.assoc t pair.col listed.0 = end_cell basis is fragment.assoc (record { t = t; col = pair.col; cell = listed.0; has = listed.1 }) key in
        let same : one ≡ symbol.End fragment.assoc lone.first lone.pair.prop = only_member listed.0 (symbol.End fragment.assoc lone.first lone.pair.prop) one lone.is listed.2 in
        let P : Symbol → Type 0 = λ other. listed.0 ≡ other ∷ [] in
        subst P (sym same) lone.is

    -- the case shows it in the pair's column
    pub shown_at : At the_case.cells pair.col.index (cell.End first pair.prop)
    shown_at =
        let of_row : listed.1.row ≡ row = only_member (pattern_of basis Of).rows row listed.1.row rows_are listed.1.is_row in
        let Here : PatternRow → Type 0 = λ other. At other.cells pair.col.index listed.0 in
        let bound : is_free row.table pair.col ≡ false = answered basis is is_free decides row.table pair.col
        (side_named basis is fragment joined.is_fragment row.table pair.col (joined.to_table ∙ sym of_table) first pair among refl) in
        let cell_is : told (pair.col.index, listed.0) ≡ cell.End first pair.prop =
        ap (λ b. if b then cell.Free else end_by_settled (settle basis.schema.model [] listed.0)) bound ∙ ap (λ symbols. end_by_settled (settle basis.schema.model [] symbols)) alone in
        let P : LinkCaseCell → Type 0 = λ it. At the_case.cells pair.col.index it in
        subst P cell_is (made_at told row.cells pair.col.index listed.0 (subst Here of_row listed.1.is_cell))

  -- and where it shows a part, there is such a pair
  pub pair_there : (col : ColId) (first : Bool) (p : PropId) → At the_case.cells col.index (cell.End first p)
      → (pair : Pair) × Contains (side first fragment) pair × (pair.col ≡ col) × (pair.prop ≡ p)
  pair_there col first p here =
      let made = made_from told row.cells col.index (cell.End first p) here in
      let symbols : List Symbol = made.0 in
      let other = chosen_other (is_free row.table col) cell.Free (end_by_settled (settle basis.schema.model [] symbols)) (cell.End first p) (sym made.2) (λ same. cc) in
      let settled = end_settled (settle basis.schema.model [] symbols) first p other.1 in
      let lists : Lists (pattern_of basis Of) t col (symbol.End settled.0 first p) = (
        symbols,
        record { row = row; is_row = only_stands (pattern_of basis Of).rows row rows_are; of_table = of_table; is_cell = made.1 },
        free_first basis.schema.model symbols (symbol.End settled.0 first p) settled.1 settled.2,
      ) in
      let by : IsEndOf basis Of t col settled.0 first p = end_of basis Of t col settled.0 first p (listed_from basis is Of t col (symbol.End settled.0 first p) lists) in
      let Only : LinkFragment → Type 0 = λ it. it.table ≡ t → it ≡ fragment in
      let same : by.fragment ≡ fragment = All-contains Only basis.schema.mapping.links by.fragment joined.links by.mapped by.to_table in
      let Has : LinkFragment → Type 0 = λ it. Contains (side first it) by.pair in
      (by.pair, subst Has same by.paired, by.at_col, by.at_prop)
