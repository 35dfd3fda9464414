-- The links that the query views give: those of entities that host them, and one of each row of a joined association's table.
-- Source: the query views of Melnik, Adya and Bernstein, SIGMOD 2007; the order of links is that of this project's documents.
use Rattle.std.specs.Prelude.{◌≡◌, ◌⊎◌, ◌↔◌, List, length, AllPairs, All, Contains, Bool, true, false, Some}
use Rattle.std.specs.Cmp.Lexicographic.{slice_cmp}
use Rattle.std.specs.declared.cmp.Ordering.TheVariants.{Less}
use Rattle.emc_base.specs.Order.{value_cmp}
use Rattle.round_trip.specs.Words.{SetId, TableId, ColId, AssocId, PropId, Value, End, Hosted, Link, Row, Tables, At, cell_of, key_props, rows_in, value_beside}
use Rattle.regions.specs.Basis.{Basis, Host}
use Rattle.region_states.specs.conflicts.Conflicts.{IsTableOf}
use Rattle.region_states.specs.focus.Given.{hosted_link}
use Rattle.case_laws.specs.declared.region_cases.link_case.LinkCase.{LinkCase}
use Rattle.case_laws.specs.declared.region_cases.link_case.LinkCaseCell.TheVariants as cell
use Rattle.case_laws.specs.region_cases.Links.{link_case_of}
use Rattle.case_laws.specs.candidates.Rows.{HasRows}
use Rattle.case_laws.specs.candidates.Viewed.{IsViewedLink}

-- one key comes before another
abbrev pub IsBefore : List Value → List Value → Type 0
IsBefore one later = slice_cmp value_cmp one later ≡ Less

-- one link comes before another: by the key at the first end, and then by that at the second
abbrev pub IsLinkBefore : Link → Link → Type 0
IsLinkBefore one later = IsBefore one.first later.first ⊎ ((one.first ≡ later.first) × IsBefore one.second later.second)

module _ (basis : Basis) (is_free : TableId → ColId → Bool) (tables : Tables) where
  -- a row shows a part of the key at an end
  abbrev pub ShowsEnd : LinkCase → Row → Bool → PropId → Value → Type 0
  ShowsEnd case row first p value = (col : ColId) × At case.cells col.index (cell.End first p) × (value ≡ cell_of row col)

  -- and so the whole key
  pub record ShowsKey (case : LinkCase) (row : Row) (first : Bool) (end : End) (key : List Value) : Type 0 where
    pub size : length key ≡ length (key_props basis.schema.model end.ty)
    pub parts : All (λ p. ShowsEnd case row first p (value_beside p (key_props basis.schema.model end.ty) key)) (key_props basis.schema.model end.ty)

  -- a link that a row of its association's own table tells, by the case of the association
  pub record IsJoinedView (a : AssocId) (link : Link) : Type 0 where
    pub case : LinkCase
    pub is_case : link_case_of is_free basis a ≡ Some case
    pub own : IsTableOf basis a case.table
    pub row : Row
    pub stands : Contains (rows_in tables case.table) row
    pub first : ShowsKey case row true own.assoc.first link.first
    pub second : ShowsKey case row false own.assoc.second link.second

  -- one that the query view of a set gives, at the key of the entity that hosts it
  pub record IsHostedView (a : AssocId) (link : Link) : Type 0 where
    pub s : SetId
    pub key : List Value
    pub rows : HasRows basis.schema tables s key
    pub host : Host
    pub is_host : Contains (basis.hosts s) host
    pub of_assoc : host.assoc ≡ a
    pub hosted : Hosted
    pub viewed : IsViewedLink basis is_free tables s key hosted
    pub of_host : hosted.assoc ≡ a
    pub is : link ≡ hosted_link host.first_hosts key hosted.partner

  -- just the links of the association that are given, each once, in their order
  pub record AreViewedLinks (a : AssocId) (links : List Link) : Type 0 where
    pub are : (link : Link) → Contains links link ↔ (IsHostedView a link ⊎ IsJoinedView a link)
    pub rising : AllPairs IsLinkBefore links
