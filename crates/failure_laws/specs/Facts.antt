-- What a conflict tells, in the words of values: which symbols some allowed values make differ, null or equal.
-- Source: this project's; the round-trip criterion of Melnik, Adya and Bernstein, SIGMOD 2007, part by part.
use Rattle.std.specs.Prelude.{◌≡◌, ◌≢◌, ◌⊎◌, ℕ, List, [], Contains, Some, false}
use Rattle.round_trip.specs.Words.{SetId, AssocId, TableId, ColId, PropId, Assoc, Column, Fragment, LinkFragment, Null, Row, Selects, Shows, ShowsLink, Table, key_props, props_of}
use Rattle.round_trip.specs.FailsAt.{HasColumn, IsUnmapped}
use Rattle.edm_types.specs.declared.model.Mult.TheVariants.{Many}
use Rattle.schema_laws.specs.sound_demand.Disagreeing.{IsOneOnly}
use Rattle.condition_logic.specs.declared.atoms.Atom.{Atom}
use Rattle.condition_logic.specs.declared.atoms.Atom.TheVariants as atom
use Rattle.regions.specs.declared.region.Region.{Region}
use Rattle.regions.specs.declared.pattern.PatternRow.{PatternRow}
use Rattle.regions.specs.declared.pattern.Focus.{Focus}
use Rattle.regions.specs.declared.pattern.Focus.TheVariants as focus
use Rattle.regions.specs.declared.pattern.Symbol.{Symbol}
use Rattle.regions.specs.declared.pattern.Symbol.TheVariants as symbol
use Rattle.regions.specs.Atoms.{atom_at}
use Rattle.regions.specs.Basis.{Basis, Host, HostedAssoc, partner_end}
use Rattle.regions.specs.Patterns.{Valuation, pattern_of, value_under}
use Rattle.regions.specs.region_laws.pattern.Allowed.{AreAllowed, IsAllowed, IsAllowedLink}
use Rattle.regions.specs.region_laws.pattern.Described.{row_for}
use Rattle.regions.specs.region_laws.pattern.Listed.{HasCell, Lists}
use Rattle.region_states.specs.Entities.{focus_entity}
use Rattle.region_states.specs.focus.Held.{HasRow}
use Rattle.region_states.specs.conflicts.Conflicts.{TellsOfLinks, TellsOfSet}
use Rattle.region_states.specs.declared.conflicts.conflict.Conflict.{Conflict}
use Rattle.region_states.specs.declared.conflicts.conflict.Conflict.TheVariants as conflict
use Rattle.conflict_laws.specs.rival.Alike.{AreWrittenAlike}

module _ (basis : Basis) where
  -- the pattern lists both symbols in the cell, and some values that the focus allows make them differ
  pub record SymbolsDiffer (of : Focus) (t : TableId) (col : ColId) (one two : Symbol) : Type 0 where
    pub lists_one : Lists (pattern_of basis of) t col one
    pub lists_two : Lists (pattern_of basis of) t col two
    pub values : Valuation
    pub allowed : AreAllowed basis of values
    pub differ : value_under values one ≢ value_under values two

  -- the cell lists the symbol, and some values that the focus allows make it null
  pub record SymbolIsNull (of : Focus) (t : TableId) (col : ColId) (one : Symbol) : Type 0 where
    pub lists : Lists (pattern_of basis of) t col one
    pub values : Valuation
    pub allowed : AreAllowed basis of values
    pub null : value_under values one ≡ Null

  -- the pattern has a row of the table, the column isn't nullable, and the cell lists no symbol, or this one, which can be null
  pub record LacksValue (of : Focus) (t : TableId) (col : ColId) (one : Symbol) : Type 0 where
    pub row : HasRow (pattern_of basis of) t
    pub table : Table
    pub column : Column
    pub has_column : HasColumn basis.schema t table col column
    pub not_nullable : column.nullable ≡ false
    pub null : (HasCell (pattern_of basis of) t col [] × (one ≡ symbol.Null)) ⊎ SymbolIsNull of t col one

  -- links of the association are hosted, and an entity may have any number of partners by it
  pub record HasManyPartners (a : AssocId) : Type 0 where
    pub s : SetId
    pub at : HostedAssoc basis s
    pub of_assoc : at.host.assoc ≡ a
    pub many : (partner_end at.host.first_hosts at.assoc).mult ≡ Many

  -- the pattern has a row of the table, and this row of the values is shown
  pub record ShowsRow (of : Focus) (values : Valuation) (t : TableId) (IsShown : Row → Type 0) : Type 0 where
    pub row : PatternRow
    pub is_row : Contains (pattern_of basis of).rows row
    pub of_table : row.table ≡ t
    pub shown : IsShown (row_for values row)

  -- the fragment at the place is one of the region's set; with some values that the region allows, just one is so: it selects the entity that has them, or
  -- the pattern's row is shown
  pub record FragmentDiffers (region : Region) (place : List ℕ) : Type 0 where
    pub fragment : Fragment
    pub mapped : Contains basis.schema.mapping.fragments fragment
    pub at_place : fragment.place ≡ place
    pub of_set : fragment.set ≡ region.set
    pub values : Valuation
    pub allowed : IsAllowed basis region values
    pub one_only : IsOneOnly (Selects basis.schema.model fragment (focus_entity basis region values))
        (ShowsRow (focus.Entity region) values fragment.table (Shows fragment))

  -- it is one of links that are hosted at the set, and just one is so: the region's flag is true, or the pattern's row is shown
  pub record LinkFragmentDiffers (region : Region) (place : List ℕ) : Type 0 where
    pub fragment : LinkFragment
    pub mapped : Contains basis.schema.mapping.links fragment
    pub at_place : fragment.place ≡ place
    pub host : Host
    pub hosted : Contains (basis.hosts region.set) host
    pub of_assoc : fragment.assoc ≡ host.assoc
    pub values : Valuation
    pub allowed : IsAllowed basis region values
    pub one_only : IsOneOnly (Contains region.linked fragment.assoc) (ShowsRow (focus.Entity region) values fragment.table (ShowsLink fragment))

  -- it is the association's own, and with the keys of some link the pattern's row isn't shown
  pub record HidesLink (a : AssocId) (place : List ℕ) : Type 0 where
    pub fragment : LinkFragment
    pub mapped : Contains basis.schema.mapping.links fragment
    pub at_place : fragment.place ≡ place
    pub of_assoc : fragment.assoc ≡ a
    pub values : Valuation
    pub allowed : IsAllowedLink basis a values
    pub hidden : ¬ ShowsRow (focus.Link a) values fragment.table (ShowsLink fragment)

  -- the fragment at the place selects the focus and the pattern's row isn't shown, or it doesn't select it and the row is shown; a link of an association
  -- that has a table of its own is always selected
  abbrev pub Disagrees : Focus → List ℕ → Type 0
  Disagrees (focus.Entity region) place = FragmentDiffers region place ⊎ LinkFragmentDiffers region place
  Disagrees (focus.Link a) place = HidesLink a place

  -- the pattern has no row
  abbrev pub HasNoRow : Region → Type 0
  HasNoRow region = (pattern_of basis (focus.Entity region)).rows ≡ []

  -- the property is one of the region's type and no part of the key, it has no atom of a single value, and no cell of the pattern lists it
  pub record IsLeftOut (region : Region) (p : PropId) : Type 0 where
    pub of_type : Contains (props_of basis.schema.model region.ty) p
    pub no_key : ¬ Contains (key_props basis.schema.model region.ty) p
    pub several : (one : Atom) → atom_at region.atoms p ≡ Some one → one ≡ atom.Other
    pub unlisted : (t : TableId) (col : ColId) → ¬ Lists (pattern_of basis (focus.Entity region)) t col (symbol.Prop p)

  -- different regions with the same flags and rows in the same tables, and some values that the first allows, together with some that the second
  -- allows, make all their cells equal
  pub record AreEqual (one two : Region) : Type 0 where
    pub different : one ≢ two
    pub linked : one.linked ≡ two.linked
    pub values : Valuation
    pub others : Valuation
    pub allowed : IsAllowed basis one values
    pub others_allowed : IsAllowed basis two others
    pub alike : AreWrittenAlike basis one two values others

  -- what a conflict tells is so
  abbrev pub IsSo : Conflict → Type 0
  IsSo (conflict.Clash of t col one two) = SymbolsDiffer of t col one two
  IsSo (conflict.ManyLinks a) = HasManyPartners a
  IsSo (conflict.NullIn of t col one) = LacksValue of t col one
  IsSo (conflict.Disagree of place) = Disagrees of place
  IsSo (conflict.Absent region) = HasNoRow region
  IsSo (conflict.Rival one two) = AreEqual one two
  IsSo (conflict.Lost region p) = IsLeftOut region p
  IsSo (conflict.Unmapped a) = (assoc : Assoc) × IsUnmapped basis.schema a assoc

  -- it tells of regions of some set, or of links of some association that are as it says
  abbrev pub TellsOfOne : Conflict → Type 0
  TellsOfOne one = ((s : SetId) × TellsOfSet basis s one) ⊎ ((a : AssocId) × TellsOfLinks basis a one)
