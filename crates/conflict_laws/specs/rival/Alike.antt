-- Entities of two regions that are written alike.
-- Source: this project's; the round-trip criterion of Melnik, Adya and Bernstein, SIGMOD 2007, decided over regions.
use Rattle.std.specs.Prelude.{◌≡◌, ◌↔◌, List, Contains, Bool, IsTrue}
use Rattle.round_trip.specs.Words.{SetId, PropId, TableId, ColId, key_props}
use Rattle.regions.specs.declared.region.Region.{Region}
use Rattle.regions.specs.declared.pattern.Focus.TheVariants as focus
use Rattle.regions.specs.declared.pattern.PatternRow.{PatternRow}
use Rattle.regions.specs.declared.pattern.Symbol.{Symbol}
use Rattle.regions.specs.Basis.{Basis}
use Rattle.regions.specs.Patterns.{Valuation, pattern_of}
use Rattle.regions.specs.Regions.{regions_of}
use Rattle.regions.specs.region_laws.pattern.Allowed.{IsAllowed}
use Rattle.regions.specs.region_laws.pattern.Described.{HasNoClashes, value_in}
use Rattle.regions.specs.region_laws.pattern.Listed.{HasCell}
use Rattle.region_states.specs.focus.Held.{HasRow}
use Rattle.region_states.specs.conflicts.SameFacts.{match_all, rows_match}

-- no cell of the region's pattern clashes
abbrev pub IsClear : Basis → Region → Type 0
IsClear basis region = (row : PatternRow) → Contains (pattern_of basis (focus.Entity region)).rows row → HasNoClashes basis.schema.model region.atoms row

-- two clear regions of a set of which the same links are there
pub record AreComparable (basis : Basis) (s : SetId) (one two : Region) : Type 0 where
  pub is_one : Contains (regions_of basis s) one
  pub is_two : Contains (regions_of basis s) two
  pub linked : one.linked ≡ two.linked
  pub clear_one : IsClear basis one
  pub clear_two : IsClear basis two

-- the values give entities of both regions one key, and the same partners
pub record HaveOneKey (basis : Basis) (one : Region) (values others : Valuation) : Type 0 where
  pub keys : (p : PropId) → Contains (key_props basis.schema.model one.ty) p → values.prop p ≡ others.prop p
  pub parts : values.part ≡ others.part

-- both regions have rows in the same tables, and each column of these holds the same by both values
pub record AreWrittenAlike (basis : Basis) (one two : Region) (values others : Valuation) : Type 0 where
  pub rows : (t : TableId) → HasRow (pattern_of basis (focus.Entity one)) t ↔ HasRow (pattern_of basis (focus.Entity two)) t
  pub cells : (t : TableId) (c : ColId) (cell other : List Symbol) → HasCell (pattern_of basis (focus.Entity one)) t c cell
      → HasCell (pattern_of basis (focus.Entity two)) t c other → value_in values cell ≡ value_in others other

-- two comparable regions of a set, and values that they allow and that write entities of both alike
pub record AreTwins (basis : Basis) (s : SetId) (one two : Region) (values others : Valuation) : Type 0 where
  pub comparable : AreComparable basis s one two
  pub allowed : IsAllowed basis one values
  pub others_allowed : IsAllowed basis two others
  pub alike : AreWrittenAlike basis one two values others

-- both have rows in the same tables, and the cells of these can hold the same
abbrev pub patterns_match : Basis → Region → Region → Bool
patterns_match basis one two = match_all (rows_match basis one.atoms two.atoms) (pattern_of basis (focus.Entity one)).rows (pattern_of basis (focus.Entity two)).rows

abbrev pub PatternsMatch : Basis → Region → Region → Type 0
PatternsMatch basis one two = IsTrue (patterns_match basis one two)
