-- A row of a state's tables is the one that its pattern's row describes, and a fragment agrees with it just where the pattern says so.
use Rattle.std.proofs.Common.{◌≡◌, ⊎_elim, ◌↔◌, List, [], Any, Contains, IsTrue, refl, sym, subst}
use Rattle.std.proofs.lemmas.List.Elements.{All-contains}
use Rattle.emc_base.proofs.Lists.{all_from_members, at_once}
use Rattle.round_trip.specs.Words.{AssocId, Fragment, Hosted, LinkFragment, Selects, Shows, ShowsLink, ColId, Null, Table, State, HasDemandedCells, DemandsCell, At, cell_of, row_key, rows_in}
use Rattle.schema_laws.proofs.state_demand.lists.Lists.{none_in_nil}
use Rattle.regions.specs.region_laws.IsBasis.{IsBasis}
use Rattle.regions.specs.declared.region.Region.{Region}
use Rattle.regions.specs.declared.pattern.Symbol.{Symbol}
use Rattle.regions.specs.declared.pattern.PatternRow.{PatternRow}
use Rattle.regions.specs.declared.pattern.Focus.{Focus}
use Rattle.regions.specs.declared.pattern.Focus.TheVariants as focus
use Rattle.regions.specs.Basis.{Basis, Host}
use Rattle.regions.specs.Regions.{TellsLinks}
use Rattle.regions.specs.Shown.{shows_link_row, shows_row}
use Rattle.regions.specs.Patterns.{Valuation, by_entity, by_link, value_under, writings_of}
use Rattle.regions.specs.Symbols.{is_linked, selects_region}
use Rattle.regions.specs.region_laws.pattern.Allowed.{AllowedFocus}
use Rattle.regions.specs.region_laws.pattern.Described.{IsRowFor, DemandedRow, DescribedRow, HostsFewAt}
use Rattle.regions.proofs.region_laws.pattern.values.Allowed.{link_allowed, region_allowed}
use Rattle.regions.proofs.region_laws.pattern.symbols.Origins.{linked_decided}
use Rattle.regions.proofs.region_laws.pattern.rows.Shown.{link_shown, shown}
use Rattle.regions.proofs.region_laws.pattern.Cells.{CellOf, cell_of as made_cell}
use Rattle.regions.specs.region_laws.Held.{PartneredEntity, StandingLink}
use Rattle.regions.proofs.region_laws.entities.Selected.{Decides-selected}
use Rattle.regions.proofs.region_laws.entities.Held.{holding_of}

module _ (basis : Basis) (state : State) (of : Focus) (valuation : Valuation) (at : DemandedRow basis state of valuation) where
  abbrev pattern : PatternRow
  pattern = at.pattern

  cells : HasDemandedCells basis.schema state pattern.table at.table at.row
  cells = All-contains (HasDemandedCells basis.schema state pattern.table at.table) (rows_in at.tables pattern.table) at.row
      (at.are.rows pattern.table at.table at.is_table).cells at.among

  cell_told : (c : ColId) (cell : List Symbol) → At pattern.cells c.index cell → CellOf basis.schema.store (writings_of basis of) pattern.table c cell
  cell_told c cell here = made_cell basis.schema.store (writings_of basis of) pattern.table c cell
      (record { row = pattern; is_row = at.clear.is_row; of_table = refl; is_cell = here })

  pub is_described : IsRowFor valuation at.pattern at.row
  is_described = record {
    listed = λ c cell here. all_from_members (λ symbol. cell_of at.row c ≡ value_under valuation symbol) cell (λ one has.
        cells.demanded c (value_under valuation one) ((at.demanded.cells c (value_under valuation one)).1
        (one, subst (λ list. Contains list one) (cell_told c cell here).is has, refl)));
    empty = λ c here. empty_is_null c here;
  }
    where
      empty_is_null : (c : ColId) → At pattern.cells c.index [] → cell_of at.row c ≡ Null
      empty_is_null c here =
          let told = cell_told c [] here in
          let table_is : told.table ≡ at.table = at_once basis.schema.store.tables pattern.table.index told.table at.table told.is_table at.is_table in
          let P : Table → Type 0 = λ one. At one.cols c.index told.column in
          ⊎_elim
          (λ (null : cell_of at.row c ≡ Null). null)
          (λ (by : DemandsCell basis.schema state pattern.table (row_key at.table at.row) c (cell_of at.row c)).
          let found = (at.demanded.cells c (cell_of at.row c)).0 by in
          absurd (none_in_nil found.0 (subst (λ list. Contains list found.0) (sym told.is) found.1)))
          (cells.only c told.column (subst P table_is told.is_column))

-- two that are alike agree just where two others that are alike with them do
pub agree_alike : {A B C D : Type 0} → A ↔ B → C ↔ D → (B ↔ D) ↔ (A ↔ C)
agree_alike one other = (
  λ agree. ((λ a. other.1 (agree.0 (one.0 a))), (λ c. one.1 (agree.1 (other.0 c)))),
  λ agree. ((λ b. other.0 (agree.0 (one.1 b))), (λ d. one.0 (agree.1 (other.1 d)))),
)

module _ (basis : Basis) (is : IsBasis basis) where
  module _ (one : PartneredEntity basis)
      (at : DemandedRow basis one.held.state (focus.Entity one.held.region) (by_entity basis.schema.model one.held.entity one.part)) where
    abbrev region : Region
    region = one.held.region

    abbrev values : Valuation
    values = by_entity basis.schema.model one.held.entity one.part

    -- the values are allowed, and the row is the one that the pattern describes
    abbrev told : AllowedFocus basis
    told = record {
      of = focus.Entity region;
      is_focus = (one.held.s, one.held.of_region.listed);
      values = values;
      allowed = region_allowed basis is one;
    }

    abbrev described_row : DescribedRow basis told
    described_row = record {
      pattern = at.pattern;
      clear = at.clear;
      row = at.row;
      is_row = is_described basis one.held.state (focus.Entity region) values at;
    }

    pub entity_agrees : (fragment : Fragment) → Contains basis.schema.mapping.fragments fragment → fragment.table ≡ at.pattern.table
        → (Selects basis.schema.model fragment one.held.entity ↔ Shows fragment at.row)
        ↔ (IsTrue (selects_region basis one.held.region fragment) ↔ IsTrue (shows_row basis.schema.model one.held.region.atoms fragment at.pattern))
    entity_agrees fragment mapped to =
        agree_alike (Decides-selected basis is fragment mapped (holding_of basis one.held)) (shown basis is told described_row fragment mapped to)

    -- a flag tells a link
    flag_told : (fragment : LinkFragment) → HostsFewAt basis region.set at.pattern.table fragment
        → IsTrue (is_linked basis region.linked fragment.assoc) ↔ Any (λ hosted. hosted.assoc ≡ fragment.assoc) one.held.of_region.links
    flag_told fragment hosts =
        let links : List Hosted = one.held.of_region.links in
        let host : Host = hosts.at.host in
        let tells : Contains region.linked host.assoc ↔ Any (λ hosted. hosted.assoc ≡ host.assoc) links =
        All-contains (TellsLinks basis region links) (basis.hosts region.set) host one.held.of_region.holds.flags hosts.at.hosts hosts.at.assoc hosts.at.is_assoc hosts.few in
        let L : AssocId → Type 0 = λ a. Contains region.linked a ↔ Any (λ (hosted : Hosted). hosted.assoc ≡ a) links in
        let told_so : L fragment.assoc = subst L (sym hosts.of_assoc) tells in
        let decides = linked_decided basis region.linked fragment.assoc in
        (λ yes_. told_so.0 (decides.0 yes_), λ any. decides.1 (told_so.1 any))

    pub host_agrees : (fragment : LinkFragment) → HostsFewAt basis one.held.region.set at.pattern.table fragment
        → (Any (λ hosted. hosted.assoc ≡ fragment.assoc) one.held.of_region.links ↔ ShowsLink fragment at.row)
        ↔ (IsTrue (is_linked basis one.held.region.linked fragment.assoc) ↔ IsTrue (shows_link_row basis.schema.model one.held.region.atoms fragment at.pattern))
    host_agrees fragment hosts = agree_alike (flag_told fragment hosts) (link_shown basis is told described_row fragment hosts.mapped hosts.to_table)

  pub link_agrees : (one : StandingLink basis) (at : DemandedRow basis one.state (focus.Link one.a) (by_link basis.schema.model one.assoc one.link))
      → (fragment : LinkFragment) → Contains basis.schema.mapping.links fragment → fragment.table ≡ at.pattern.table
      → IsTrue (shows_link_row basis.schema.model [] fragment at.pattern) ↔ ShowsLink fragment at.row
  link_agrees one at fragment mapped to =
      let values_of : Valuation = by_link basis.schema.model one.assoc one.link in
      link_shown basis is
      (record { of = focus.Link one.a; is_focus = (one.assoc, one.is_assoc); values = values_of; allowed = link_allowed basis is one })
      (record { pattern = at.pattern; clear = at.clear; row = at.row; is_row = is_described basis one.state (focus.Link one.a) values_of at })
      fragment mapped to
