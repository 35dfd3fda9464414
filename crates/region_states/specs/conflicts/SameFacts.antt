-- What makes two states have the same tables: entities that leave no trace, values that do, and entities of two regions with the same rows.
-- Source: this project's; the round-trip criterion of Melnik, Adya and Bernstein, SIGMOD 2007, decided over regions.
use Rattle.std.specs.Prelude.{◌&&◌, ◌==◌, List, [], ◌∷◌, map, Bool, true, false, not}
use Rattle.std.specs.List.{list_any}
use Rattle.round_trip.specs.Words.{PropId, Null, props_of, key_props}
use Rattle.schema_laws.specs.state_demand.Selecting.{same_value}
use Rattle.condition_logic.specs.declared.atoms.Atom.{Atom}
use Rattle.condition_logic.specs.declared.atoms.Atom.TheVariants as atom
use Rattle.condition_logic.specs.declared.atoms.AtomOf.{AtomOf}
use Rattle.regions.specs.declared.region.Region.{Region}
use Rattle.regions.specs.declared.pattern.Symbol.{Symbol}
use Rattle.regions.specs.declared.pattern.Symbol.TheVariants as symbol
use Rattle.regions.specs.declared.pattern.PatternRow.{PatternRow}
use Rattle.regions.specs.declared.pattern.Pattern.{Pattern}
use Rattle.regions.specs.declared.pattern.Focus.TheVariants as focus
use Rattle.regions.specs.Basis.{Basis}
use Rattle.regions.specs.Patterns.{pattern_of}
use Rattle.regions.specs.Settled.{Possible, Settled, single, multi, known, free, possible, settle}
use Rattle.region_states.specs.conflicts.Facts.{lists}

-- two lists match where they have as many items, and these match in their order
abbrev pub match_all : {X : Type 0} → (X → X → Bool) → List X → List X → Bool
match_all matches [] [] = true
match_all matches (x ∷ xs) (y ∷ ys) = matches x y && match_all matches xs ys
match_all matches _ _ = false

-- whether two atoms are one
abbrev pub same_atom : Atom → Atom → Bool
same_atom atom.Null atom.Null = true
same_atom (atom.Is one) (atom.Is two) = same_value one two
same_atom atom.Other atom.Other = true
same_atom one two = false

-- whether two regions of a set are one
abbrev pub same_region : Region → Region → Bool
same_region one two = (one.ty.index == two.ty.index)
    && match_all (λ told other. (told.prop.index == other.prop.index) && same_atom told.atom other.atom) one.atoms two.atoms
    && match_all (λ a b. a.index == b.index) one.linked two.linked

-- whether several values are possible
abbrev pub is_multi : Possible → Bool
is_multi (single value) = false
is_multi (multi nullable) = true

-- whether two cells, which hold this, can hold one value
abbrev pub are_compatible : Settled → Settled → Bool
are_compatible (known one) (known two) = same_value one two
are_compatible (known value) (free one nullable) = same_value value Null && nullable
are_compatible (free one nullable) (known value) = same_value value Null && nullable
are_compatible (free one nullable) (free two other) = true

-- whether a property is one of these
abbrev pub is_one_of : PropId → List PropId → Bool
is_one_of p props = list_any (λ other. other.index == p.index) props

-- whether a pattern lists a symbol
abbrev pub lists_anywhere : Pattern → Symbol → Bool
lists_anywhere pattern one = list_any (λ row. list_any (λ cell. lists cell one) row.cells) pattern.rows

module _ (basis : Basis) where
  -- entities of the region write no row
  abbrev pub is_absent : Region → Bool
  is_absent region = not (list_any (λ row. true) (pattern_of basis (focus.Entity region)).rows)

  -- a property of the region's type that is no part of the key and may have several values, which the pattern doesn't list
  abbrev pub is_lost : Region → PropId → Bool
  is_lost region p = is_one_of p (props_of basis.schema.model region.ty) && not (is_one_of p (key_props basis.schema.model region.ty))
      && is_multi (possible basis.schema.model region.atoms (symbol.Prop p)) && not (lists_anywhere (pattern_of basis (focus.Entity region)) (symbol.Prop p))

  -- what the cells of a row hold, where these atoms are told
  abbrev pub settled_cells : List AtomOf → PatternRow → List Settled
  settled_cells atoms row = map (settle basis.schema.model atoms) row.cells

  -- two rows of one table can hold the same
  abbrev pub rows_match : List AtomOf → List AtomOf → PatternRow → PatternRow → Bool
  rows_match atoms others row other = (row.table.index == other.table.index) && match_all are_compatible (settled_cells atoms row) (settled_cells others other)

  -- different regions, of which the same links are there, with rows in the same tables, which can hold the same
  abbrev pub are_rivals : Region → Region → Bool
  are_rivals one two = not (same_region one two) && match_all (λ a b. a.index == b.index) one.linked two.linked
      && match_all (rows_match one.atoms two.atoms) (pattern_of basis (focus.Entity one)).rows (pattern_of basis (focus.Entity two)).rows
