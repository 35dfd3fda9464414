-- A state demands of the rows of an entity or a link just what the pattern says.
use Rattle.std.proofs.Common.{◌≡◌, ◌↔◌, inl, inr, List, sym, ap, ◌∙◌}
use Rattle.std.proofs.lemmas.List.Elements.{All-contains}
use Rattle.round_trip.specs.Words.{TableId, ColId, DemandsCell, DemandsRow, Fragment, IsLegal, LinkFragment, State, Value, Writing, Writes, written_key}
use Rattle.schema_laws.specs.sound_demand.Local.{HasLocalDemand}
use Rattle.schema_laws.proofs.sound_demand.Local.{local_demand}
use Rattle.regions.specs.declared.pattern.Focus.TheVariants as focus
use Rattle.regions.specs.Basis.{Basis}
use Rattle.regions.specs.Patterns.{by_entity, by_link, pattern_of}
use Rattle.regions.specs.region_laws.IsBasis.{IsBasis}
use Rattle.regions.proofs.region_laws.writings.Owned.{cell_demanded, link_cell_demanded, link_row_demanded, row_demanded}
use Rattle.regions.specs.region_laws.Held.{LinkedEntity, LinkRow, IsAtRow}
use Rattle.region_states.specs.focus.Held.{HasRow, IsRowOfOne, ListsValue}
use Rattle.region_states.proofs.focus.Listed.{has_row, has_symbol}

module _ (basis : Basis) (is : IsBasis basis) where
  module _ (linked : LinkedEntity basis) (t : TableId) (key : List Value) (at : IsAtRow basis linked.state linked.s linked.entity t key) where
    pub rows : DemandsRow basis.schema linked.state t key ↔ HasRow (pattern_of basis (focus.Entity linked.region)) t
    rows =
        let by = row_demanded basis is linked t key at in
        let has = has_row basis is (focus.Entity linked.region) t in
        (λ demanded. has.0 (by.0 demanded), λ there. by.1 (has.1 there))

    pub cells : (col : ColId) (value : Value) → DemandsCell basis.schema linked.state t key col value
        ↔ ListsValue (pattern_of basis (focus.Entity linked.region)) (by_entity basis.schema.model linked.entity linked.part) t col value
    cells col value =
        let by = cell_demanded basis is linked t key at col value in
        let has = has_symbol basis is (by_entity basis.schema.model linked.entity linked.part) (focus.Entity linked.region) t col value in
        (λ demanded. has.0 (by.0 demanded), λ there. by.1 (has.1 there))

  module _ (row : LinkRow basis) where
    pub link_rows : DemandsRow basis.schema row.state row.t row.key ↔ HasRow (pattern_of basis (focus.Link row.fragment.assoc)) row.t
    link_rows =
        let by = link_row_demanded basis is row in
        let has = has_row basis is (focus.Link row.fragment.assoc) row.t in
        (λ demanded. has.0 (by.0 demanded), λ there. by.1 (has.1 there))

    pub link_cells : (col : ColId) (value : Value) → DemandsCell basis.schema row.state row.t row.key col value
        ↔ ListsValue (pattern_of basis (focus.Link row.fragment.assoc)) (by_link basis.schema.model row.assoc row.link) row.t col value
    link_cells col value =
        let by = link_cell_demanded basis is row col value in
        let has = has_symbol basis is (by_link basis.schema.model row.assoc row.link) (focus.Link row.fragment.assoc) row.t col value in
        (λ demanded. has.0 (by.0 demanded), λ there. by.1 (has.1 there))

  -- each demanded row is that of an entity, or of a link
  pub row_of_one : (state : State) → IsLegal basis.schema.model state → (t : TableId) (key : List Value) → DemandsRow basis.schema state t key → IsRowOfOne basis state t key
  row_of_one state legal t key (writing, writes) = by (local_demand basis.schema is.sound state legal t)
    where
      by : HasLocalDemand basis.schema state t → IsRowOfOne basis state t key
      by (inl (s, pairing, owned, local)) =
          let found = local.local key writing writes in
          inl (s, found.0, record { pairing = pairing; owned = owned; at = found.1 })
      by (inr (inl (fragment, assoc, joined, local))) =
          let found = local.local key writing writes in
          let key_of_it : Writing → List Value = written_key basis.schema.store in
          inr (fragment, assoc, found.0, record { joined = joined; stands = found.1; at_key = sym writes.to_key ∙ ap key_of_it found.2 })
      by (inr (inr unwritten)) = absurd (none writes.writes)
        where
          none : Writes basis.schema state writing → ⊥
          none (inl (fragment, entity, wrote, same)) =
              All-contains (λ (one : Fragment). ¬ (one.table ≡ t)) basis.schema.mapping.fragments fragment unwritten.fragments wrote.mapped
              (sym (ap (λ (one : Writing). one.table) same) ∙ writes.to_table)
          none (inr (fragment, assoc, link, wrote, same)) =
              All-contains (λ (one : LinkFragment). ¬ (one.table ≡ t)) basis.schema.mapping.links fragment unwritten.links wrote.mapped
              (sym (ap (λ (one : Writing). one.table) same) ∙ writes.to_table)
