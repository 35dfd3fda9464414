-- The pattern of a joined association is one row: that of the table which its link fragment writes.
use Rattle.std.proofs.Common.{◌≡◌, ⊎_elim, ◌<◌, List, [], ◌∷◌, AllPairs, Contains, ◌==◌, false, IsTrue, refl, sym, ap, arith}
use Rattle.std.proofs.lemmas.Bool.Decides.{Decides-eqb}
use Rattle.emc_base.proofs.Mapped.{contains_filter, contains_map}
use Rattle.round_trip.specs.Words.{Assoc, LinkFragment, TableId}
use Rattle.schema_laws.specs.state_demand.Owners.{IsJoinedTo}
use Rattle.schema_laws.proofs.state_demand.lists.Lists.{any_of, head_stands, member_cases, none_in_nil, tail_stands}
use Rattle.regions.specs.declared.pattern.Focus.{Focus}
use Rattle.regions.specs.declared.pattern.Focus.TheVariants as focus
use Rattle.regions.specs.declared.pattern.PatternRow.{PatternRow}
use Rattle.regions.specs.Basis.{Basis}
use Rattle.regions.specs.Patterns.{is_written, pattern_of, writings_of}
use Rattle.regions.specs.Symbols.{SymbolWriting, link_fragment_writing, link_fragments_of}
use Rattle.regions.specs.region_laws.IsBasis.{IsBasis}
use Rattle.regions.proofs.region_laws.writings.Cells.{Decides-written}
use Rattle.regions.proofs.region_laws.writings.Rows.{rows_order}
use Rattle.region_states.specs.focus.Held.{HasRow}
use Rattle.region_states.proofs.focus.Listed.{has_row, row_joined}

-- rows of one table whose tables rise are one row
one_of : (t : TableId) (rows : List PatternRow) → AllPairs (λ one next. one.table.index < next.table.index) rows
    → ((row : PatternRow) → Contains rows row → row.table ≡ t) → (row : PatternRow) → Contains rows row → rows ≡ row ∷ []
one_of t [] rise of_table row has = absurd (none_in_nil row has)
one_of t (one ∷ []) rise of_table row has = ⊎_elim
    (λ (is : row ≡ one). λ k. sym is k ∷ [])
    (λ (none : Contains [] row). absurd (none_in_nil row none))
    (member_cases one [] row has)
one_of t (one ∷ next ∷ rest) rise of_table row has =
    let less : one.table.index < next.table.index = rise 0 1 one (omega arith) (omega arith) in
    let at_one : one.table.index ≡ t.index = ap (λ (u : TableId). u.index) (of_table one (head_stands one (next ∷ rest))) in
    let at_next : next.table.index ≡ t.index = ap (λ (u : TableId). u.index) (of_table next (tail_stands one (next ∷ rest) next (head_stands next rest))) in
    absurd (omega (arith, less, at_one, at_next))

module _ (basis : Basis) (is : IsBasis basis) (t : TableId) (fragment : LinkFragment) (assoc : Assoc) (joined : IsJoinedTo basis.schema t fragment assoc) where
  abbrev Of : Focus
  Of = focus.Link fragment.assoc

  -- the association writes the table
  writes : IsTrue (is_written (writings_of basis Of) t)
  writes =
      let made : LinkFragment → SymbolWriting = link_fragment_writing false false in
      let among : Contains (link_fragments_of basis fragment.assoc) fragment = contains_filter (λ (one : LinkFragment). one.assoc.index == fragment.assoc.index)
      basis.schema.mapping.links fragment joined.is_fragment ((Decides-eqb fragment.assoc.index fragment.assoc.index).1 refl) in
      (Decides-written (writings_of basis Of) t).1
      (any_of (λ (one : SymbolWriting). one.table ≡ t) (writings_of basis Of) (made fragment) (contains_map made (link_fragments_of basis fragment.assoc) fragment among) joined.to_table)

  pub joined_row : (row : PatternRow) × ((pattern_of basis Of).rows ≡ row ∷ []) × (row.table ≡ t)
  joined_row =
      let found : HasRow (pattern_of basis Of) t = (has_row basis is Of t).0 writes in
      let one = one_of t (pattern_of basis Of).rows (rows_order basis.schema.store (writings_of basis Of)) (row_joined basis is t fragment assoc joined) found.0 found.1 in
      (found.0, one, found.2)
