-- The first cell that shows each property, and the later ones, as they are noted.
-- Source: the query views of Melnik, Adya and Bernstein, SIGMOD 2007.
use Rattle.std.specs.Prelude.{◌≡◌, ◌⊎◌, ℕ, List, All, Contains, Some, option_and_then}
use Rattle.std.specs.BTreeMap.{BTreeMap, get}
use Rattle.std.specs.Option.{option_map_or}
use Rattle.std.specs.Ordering.{nat_cmp}
use Rattle.round_trip.specs.Words.{PropId, Null}
use Rattle.condition_logic.specs.declared.atoms.AtomOf.{AtomOf}
use Rattle.regions.specs.Atoms.{atom_at}
use Rattle.query_cases.specs.declared.case_reading.reading.CellPlace.{CellPlace}
use Rattle.query_cases.specs.declared.case_reading.reading.Source.{Source}
use Rattle.query_cases.specs.declared.case_reading.reading.Source.TheVariants as source
use Rattle.query_cases.specs.declared.case_reading.reading.Twins.{Twins}
use Rattle.query_cases.specs.case_reading.Reading.{one_value}

-- a place that is among these is the first of its property, or a later twin of this; firsts and twins are among these
pub record AreNoted (shown : List (PropId × CellPlace)) (firsts : BTreeMap ℕ CellPlace) (twins : List Twins) : Type 0 where
  pub known : (p : PropId) (place : CellPlace) → get nat_cmp firsts p.index ≡ Some place → Contains shown (p, place)
  pub linked : (p : PropId) (place : CellPlace) → Contains shown (p, place)
      → (first : CellPlace) × (get nat_cmp firsts p.index ≡ Some first) × ((place ≡ first) ⊎ Contains twins (record { first = first; later = place }))
  pub pairs : All (λ two. (p : PropId) × Contains shown (p, two.first) × Contains shown (p, two.later)) twins

-- the first cell of a property; null where there is none
abbrev pub first_source : BTreeMap ℕ CellPlace → PropId → Source
first_source firsts p = option_map_or source.Cell (get nat_cmp firsts p.index) (source.Is Null)

-- the one value of its atom, or else its first cell
abbrev pub source_by : List AtomOf → BTreeMap ℕ CellPlace → PropId → Source
source_by atoms firsts p = option_map_or source.Is (option_and_then one_value (atom_at atoms p)) (first_source firsts p)
