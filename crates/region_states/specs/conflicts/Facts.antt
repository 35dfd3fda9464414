-- What makes a mapping fail at a region or a link, as computed answers over its pattern.
-- Source: this project's; the round-trip criterion of Melnik, Adya and Bernstein, SIGMOD 2007, decided over regions.
use Rattle.std.specs.Prelude.{◌&&◌, ◌||◌, ◌==◌, ℕ, List, [], find, slice_get, Bool, true, false, not, if◌then◌else◌}
use Rattle.std.specs.List.{list_any}
use Rattle.std.specs.Option.{option_map_or}
use Rattle.std.specs.Str.{bytes_eq}
use Rattle.round_trip.specs.Words.{SetId, TableId, ColId, AssocId, Null, Assoc, Mult, StoreModel, Fragment, LinkFragment}
use Rattle.edm_types.specs.declared.model.Mult.TheVariants.{One, ZeroOrOne, Many}
use Rattle.schema_laws.specs.state_demand.Selecting.{same_value}
use Rattle.regions.specs.declared.region.Region.{Region}
use Rattle.regions.specs.declared.pattern.Symbol.{Symbol}
use Rattle.regions.specs.declared.pattern.Symbol.TheVariants as symbol
use Rattle.regions.specs.declared.pattern.Pattern.{Pattern}
use Rattle.regions.specs.declared.pattern.Focus.{Focus}
use Rattle.regions.specs.declared.pattern.Focus.TheVariants as focus
use Rattle.regions.specs.Basis.{Basis, partner_end}
use Rattle.regions.specs.Patterns.{pattern_of}
use Rattle.regions.specs.Settled.{Possible, single, multi, possible, clashes}
use Rattle.regions.specs.Shown.{cell_in, shows_row, shows_link_row}
use Rattle.regions.specs.Symbols.{is_linked, same_symbol, selects_region}
use Rattle.regions.specs.region_laws.pattern.Allowed.{told_of}

-- whether a symbol is listed
abbrev pub lists : List Symbol → Symbol → Bool
lists cell one = list_any (λ other. same_symbol other one) cell

-- the symbols in a column of the pattern's row of a table; none where it has no such row or column
abbrev pub listed_in : Pattern → TableId → ColId → List Symbol
listed_in pattern t col = option_map_or (λ row. cell_in row col) (find (λ row. row.table.index == t.index) pattern.rows) []

-- whether the pattern has a row of the table
abbrev pub has_row : Pattern → TableId → Bool
has_row pattern t = list_any (λ row. row.table.index == t.index) pattern.rows

-- whether the table has the column, and this isn't nullable
abbrev pub is_required : StoreModel → TableId → ColId → Bool
is_required store t col = option_map_or (λ table. option_map_or (λ column. not column.nullable) (slice_get table.cols col.index) false) (slice_get store.tables t.index) false

-- whether null is possible
abbrev pub can_be_null : Possible → Bool
can_be_null (single value) = same_value value Null
can_be_null (multi nullable) = nullable

-- the multiplicity is `*`
abbrev pub is_many : Mult → Bool
is_many One = false
is_many ZeroOrOne = false
is_many Many = true

-- the association has no constraint
abbrev pub is_independent : Assoc → Bool
is_independent assoc = option_map_or (λ constraint. false) assoc.constraint true

-- whether just one of the two is so
abbrev pub differ : Bool → Bool → Bool
differ one two = if one then not two else two

module _ (basis : Basis) where
  -- the cell lists the two symbols, and they can differ
  abbrev pub is_clash : Focus → TableId → ColId → Symbol → Symbol → Bool
  is_clash of t col one two = lists (listed_in (pattern_of basis of) t col) one && lists (listed_in (pattern_of basis of) t col) two
      && clashes basis.schema.model (told_of of) one two

  -- the symbol stands for null in the cell: it is listed and can be null, or nothing is listed and it is that of null
  abbrev pub stands_for_null : Focus → List Symbol → Symbol → Bool
  stands_for_null of [] one = same_symbol symbol.Null one
  stands_for_null of cell one = lists cell one && can_be_null (possible basis.schema.model (told_of of) one)

  -- the pattern has a row of the table, the column isn't nullable, and the symbol stands for null in the cell
  abbrev pub is_null_in : Focus → TableId → ColId → Symbol → Bool
  is_null_in of t col one = has_row (pattern_of basis of) t && is_required basis.schema.store t col
      && stands_for_null of (listed_in (pattern_of basis of) t col) one

  -- whether a fragment shows a row of the focus
  abbrev pub shows_pattern : Focus → Fragment → Bool
  shows_pattern of fragment = list_any (λ row. (row.table.index == fragment.table.index) && shows_row basis.schema.model (told_of of) fragment row)
      (pattern_of basis of).rows

  -- the same of a link fragment
  abbrev pub shows_link_pattern : Focus → LinkFragment → Bool
  shows_link_pattern of fragment = list_any (λ row. (row.table.index == fragment.table.index) && shows_link_row basis.schema.model (told_of of) fragment row)
      (pattern_of basis of).rows

  -- a fragment of the region's set selects the region and doesn't show its row, or shows this and doesn't select the region
  abbrev pub differs_at : Region → Fragment → Bool
  differs_at region fragment = (fragment.set.index == region.set.index)
      && differ (selects_region basis region fragment) (shows_pattern (focus.Entity region) fragment)

  -- whether the links of an association are hosted at the region's set
  abbrev pub is_hosted : Region → AssocId → Bool
  is_hosted region a = list_any (λ host. host.assoc.index == a.index) (basis.hosts region.set)

  -- a fragment of links that are hosted at the set: a link is there and the fragment doesn't show the row, or it shows this and no link is there
  abbrev pub differs_at_links : Region → LinkFragment → Bool
  differs_at_links region fragment = is_hosted region fragment.assoc
      && differ (is_linked basis region.linked fragment.assoc) (shows_link_pattern (focus.Entity region) fragment)

  -- the association's fragment doesn't show the row of a link
  abbrev pub hides_link : AssocId → LinkFragment → Bool
  hides_link a fragment = (fragment.assoc.index == a.index) && not (shows_link_pattern (focus.Link a) fragment)

  -- the fragment at this place and the focus disagree
  abbrev pub disagrees_at : Focus → List ℕ → Bool
  disagrees_at (focus.Entity region) place =
      list_any (λ fragment. bytes_eq fragment.place place && differs_at region fragment) basis.schema.mapping.fragments
      || list_any (λ fragment. bytes_eq fragment.place place && differs_at_links region fragment) basis.schema.mapping.links
  disagrees_at (focus.Link a) place = list_any (λ fragment. bytes_eq fragment.place place && hides_link a fragment) basis.schema.mapping.links

  -- links of the association are hosted at the set, and an entity may have any number of partners by it
  abbrev pub has_many_at : AssocId → Assoc → SetId → Bool
  has_many_at a assoc s = list_any (λ host. (host.assoc.index == a.index) && is_many (partner_end host.first_hosts assoc).mult) (basis.hosts s)

  -- so it is at the set of one of its ends
  abbrev pub is_many_links : AssocId → Bool
  is_many_links a = option_map_or (λ assoc. has_many_at a assoc assoc.first.set || has_many_at a assoc assoc.second.set) (slice_get basis.schema.model.assocs a.index) false

  -- the association is independent, and no link fragment maps it
  abbrev pub is_unmapped : AssocId → Bool
  is_unmapped a = option_map_or (λ assoc. is_independent assoc && not (list_any (λ fragment. fragment.assoc.index == a.index) basis.schema.mapping.links))
      (slice_get basis.schema.model.assocs a.index) false
