-- The rows of a link of a joined association by the association's pattern are those that the state demands of it; and which associations are joined.
use Rattle.std.proofs.Common.{◌≡◌, ◌⊎◌, ⊎_elim, inl, inr, ◌==◌, List, All, Contains, refl, sym, ap, subst, ◌∙◌}
use Rattle.std.proofs.lemmas.Bool.Decides.{Decides-eqb, Decides-like}
use Rattle.std.proofs.lemmas.List.Elements.{All-contains}
use Rattle.emc_base.proofs.Lists.{all_from_members, item_at}
use Rattle.emc_base.proofs.Numbered.{map_contains}
use Rattle.round_trip.specs.Words.{AssocId, TableId, Assoc, At, DemandsRow, IsLegal, Link, LinkFragment, State, Table, Value, links_in, row_key, written_key}
use Rattle.round_trip.specs.TablesAre.{HasNoClash}
use Rattle.table_files.specs.declared.tables.TableRow.{TableRow}
use Rattle.schema_laws.specs.state_demand.Owners.{HasOwner, IsJoinedTo}
use Rattle.schema_laws.specs.state_demand.Writings.{link_writing}
use Rattle.schema_laws.proofs.state_demand.writings.Decisions.{so_or_not}
use Rattle.schema_laws.proofs.state_demand.lists.Lists.{any_or_none}
use Rattle.schema_laws.proofs.sound_demand.Fitting.{link_ids}
use Rattle.schema_laws.proofs.sound_demand.owners.OneOwner.{owned_or_joined}
use Rattle.schema_laws.proofs.sound_demand.owners.Owned.{has_owner}
use Rattle.regions.specs.declared.pattern.Focus.TheVariants as focus
use Rattle.regions.specs.declared.pattern.PatternRow.{PatternRow}
use Rattle.regions.specs.Basis.{Basis}
use Rattle.regions.specs.Patterns.{Valuation, by_link, pattern_of}
use Rattle.regions.specs.region_laws.IsBasis.{IsBasis}
use Rattle.regions.specs.region_laws.pattern.Described.{row_for}
use Rattle.regions.specs.region_laws.Held.{IsAtLinkRow, LinkRow}
use Rattle.regions.proofs.region_laws.pattern.symbols.Hosting.{one_link}
use Rattle.region_states.proofs.focus.Demanded.{link_cells, link_rows as link_row_there}
use Rattle.region_states.proofs.focus.Listed.{row_joined}
use Rattle.case_laws.specs.filled_rows.Demanded.{IsDemandedLinkRow}
use Rattle.case_laws.specs.filled_rows.Filled.{link_rows, table_row}
use Rattle.case_laws.proofs.filled_rows.Filled.{IsFilled, filled, key_held}

-- a filled row of the link, in the table of its joined association
pub record IsLinkRow (basis : Basis) (state : State) (fragment : LinkFragment) (assoc : Assoc) (link : Link) (placed : TableRow) : Type 0 where
  pub table : Table
  pub is_table : At basis.schema.store.tables placed.table.index table
  pub joined : IsJoinedTo basis.schema placed.table fragment assoc
  pub at_key : row_key table placed.row ≡ written_key basis.schema.store (link_writing basis.schema.model fragment assoc link)
  pub is_filled : IsFilled basis state placed.table table placed.row

module _ (basis : Basis) (is : IsBasis basis) (state : State) (legal : IsLegal basis.schema.model state) (no_clash : HasNoClash basis.schema state) (t : TableId)
    (fragment : LinkFragment) (assoc : Assoc) (joined : IsJoinedTo basis.schema t fragment assoc) (link : Link) (stands : Contains (links_in state fragment.assoc) link) where
  abbrev valuation : Valuation
  valuation = by_link basis.schema.model assoc link

  abbrev key : List Value
  key = written_key basis.schema.store (link_writing basis.schema.model fragment assoc link)

  abbrev JoinedTo : TableId → Type 0
  JoinedTo u = IsJoinedTo basis.schema u fragment assoc

  row_here : (pattern : PatternRow) → Contains (pattern_of basis (focus.Link fragment.assoc)).rows pattern → IsLinkRow basis state fragment assoc link (table_row valuation pattern)
  row_here pattern has =
      let same : pattern.table ≡ t = row_joined basis is t fragment assoc joined pattern has in
      let here : JoinedTo pattern.table = subst JoinedTo (sym same) joined in
      let InStore : TableId → Type 0 = λ u. (table : Table) × At basis.schema.store.tables u.index table in
      let table = subst InStore here.to_table (item_at basis.schema.store.tables fragment.table.index (link_ids basis.schema is.sound fragment here.is_fragment).table) in
      let at : IsAtLinkRow basis state fragment assoc link pattern.table key = record { joined = here; stands = stands; at_key = refl } in
      let row : LinkRow basis = record {
        state = state;
        legal = legal;
        fragment = fragment;
        assoc = assoc;
        link = link;
        t = pattern.table;
        key = key;
        at = at;
      } in
      let demanded : DemandsRow basis.schema state pattern.table key = (link_row_there basis is row).1 (pattern, has, refl) in
      let cells = link_cells basis is row in
      let kept : row_key table.0 (row_for valuation pattern) ≡ key =
      key_held basis (focus.Link fragment.assoc) pattern has table.0 table.1 valuation is state key cells no_clash demanded in
      record {
        table = table.0;
        is_table = table.1;
        joined = here;
        at_key = kept;
        is_filled = filled basis (focus.Link fragment.assoc) pattern has table.0 table.1 valuation is state key cells no_clash demanded kept;
      }

  pub row_of_link : (placed : TableRow) → Contains (link_rows basis fragment.assoc assoc link) placed → IsLinkRow basis state fragment assoc link placed
  row_of_link placed among =
      let found = map_contains (table_row valuation) (pattern_of basis (focus.Link fragment.assoc)).rows placed among in
      subst (IsLinkRow basis state fragment assoc link) found.2 (row_here found.0 found.1)

  pub demanded_links : All (IsDemandedLinkRow basis state fragment assoc link) (link_rows basis fragment.assoc assoc link)
  demanded_links = all_from_members (IsDemandedLinkRow basis state fragment assoc link) (link_rows basis fragment.assoc assoc link) (λ placed among.
      let row = row_of_link placed among in
      record {
        table = row.table;
        is_table = row.is_table;
        joined = row.joined;
        at_key = row.at_key;
        demanded = row.is_filled.demanded;
        cells = row.is_filled.cells;
      })

-- an association is joined, or not
module _ (basis : Basis) (is : IsBasis basis) (a : AssocId) where
  abbrev pub IsJoined : Type 0
  IsJoined = (t : TableId) × (fragment : LinkFragment) × (assoc : Assoc) × IsJoinedTo basis.schema t fragment assoc × (fragment.assoc ≡ a)

  abbrev pub IsUnjoined : Type 0
  IsUnjoined = (t : TableId) (fragment : LinkFragment) (assoc : Assoc) → IsJoinedTo basis.schema t fragment assoc → ¬ (fragment.assoc ≡ a)

  assoc_or_not : (fragment : LinkFragment) → (fragment.assoc ≡ a) ⊎ ¬ (fragment.assoc ≡ a)
  assoc_or_not fragment = so_or_not (fragment.assoc.index == a.index)
      (Decides-like (fragment.assoc.index == a.index) (λ same k. record { index = same k }) (λ same. ap (λ (one : AssocId). one.index) same)
      (Decides-eqb fragment.assoc.index a.index))

  by_owner : (fragment : LinkFragment) → Contains basis.schema.mapping.links fragment → fragment.assoc ≡ a → HasOwner basis.schema fragment.table → IsJoined ⊎ IsUnjoined
  by_owner fragment mapped of_assoc (inl (s, pairing, owned)) = inr (λ t other assoc joined same.
      let one : other ≡ fragment = one_link basis is other fragment joined.is_fragment mapped (same ∙ sym of_assoc) in
      let there : fragment.table ≡ t = sym (ap (λ (f : LinkFragment). f.table) one) ∙ joined.to_table in
      let P : TableId → Type 0 = λ u. IsJoinedTo basis.schema u other assoc in
      owned_or_joined basis.schema is.sound fragment.table s pairing other assoc owned (subst P (sym there) joined))
  by_owner fragment mapped of_assoc (inr (inl (other, assoc, joined))) =
      let Only : LinkFragment → Type 0 = λ one. one.table ≡ fragment.table → one ≡ other in
      let same : fragment ≡ other = All-contains Only basis.schema.mapping.links fragment joined.links mapped refl in
      inl (fragment.table, other, assoc, joined, sym (ap (λ (f : LinkFragment). f.assoc) same) ∙ of_assoc)
  by_owner fragment mapped of_assoc (inr (inr unwritten)) =
      absurd (All-contains (λ (one : LinkFragment). ¬ (one.table ≡ fragment.table)) basis.schema.mapping.links fragment unwritten.links mapped refl)

  pub joined_or_not : IsJoined ⊎ IsUnjoined
  joined_or_not = ⊎_elim
      (λ (found : (fragment : LinkFragment) × Contains basis.schema.mapping.links fragment × (fragment.assoc ≡ a)).
      by_owner found.0 found.1 found.2 (has_owner basis.schema is.sound found.0.table))
      (λ (none : (fragment : LinkFragment) → Contains basis.schema.mapping.links fragment → ¬ (fragment.assoc ≡ a)).
      inr (λ t fragment assoc joined. none fragment joined.is_fragment))
      (any_or_none (λ (fragment : LinkFragment). fragment.assoc ≡ a) assoc_or_not basis.schema.mapping.links)
