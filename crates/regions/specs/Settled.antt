-- What the symbols of a cell can be, and what a cell holds that has no clash.
-- Source: this project's; the finite test of this profile for two demanded values of one cell.
use Rattle.std.specs.Prelude.{◌&&◌, List, [], ◌∷◌, slice_get, Bool, false, not}
use Rattle.std.specs.List.{list_any}
use Rattle.std.specs.Option.{option_map_or}
use Rattle.round_trip.specs.Words.{PropId, Value, Null, EntityModel}
use Rattle.condition_logic.specs.declared.atoms.Atom.{Atom}
use Rattle.condition_logic.specs.declared.atoms.Atom.TheVariants as atom
use Rattle.condition_logic.specs.declared.atoms.AtomOf.{AtomOf}
use Rattle.schema_laws.specs.state_demand.Selecting.{same_value}
use Rattle.regions.specs.declared.pattern.Symbol.{Symbol}
use Rattle.regions.specs.declared.pattern.Symbol.TheVariants as symbol
use Rattle.regions.specs.Atoms.{atom_at}
use Rattle.regions.specs.Symbols.{same_symbol}

-- one value alone, or several, null among them or not
pub data Possible : Type 0 where
  single : Value → Possible
  multi : Bool → Possible

-- whether a property is nullable
abbrev pub is_nullable : EntityModel → PropId → Bool
is_nullable model p = option_map_or (λ declared. declared.nullable) (slice_get model.props p.index) false

abbrev pub of_atom : Atom → Possible
of_atom atom.Null = single Null
of_atom (atom.Is value) = single value
of_atom atom.Other = multi false

-- what a symbol can be, where these atoms are told
abbrev pub possible : EntityModel → List AtomOf → Symbol → Possible
possible model atoms symbol.Null = single Null
possible model atoms (symbol.Const value) = single value
possible model atoms (symbol.Prop p) = option_map_or of_atom (atom_at atoms p) (multi (is_nullable model p))
possible model atoms (symbol.End assoc first p) = multi false

-- whether both are one and the same value alone
abbrev pub are_one : Possible → Possible → Bool
are_one (single one) (single two) = same_value one two
are_one one two = false

-- whether two symbols of one cell can differ
abbrev pub clashes : EntityModel → List AtomOf → Symbol → Symbol → Bool
clashes model atoms one two = not (same_symbol one two) && not (are_one (possible model atoms one) (possible model atoms two))

abbrev pub has_clash : EntityModel → List AtomOf → List Symbol → Bool
has_clash model atoms cell = list_any (λ one. list_any (clashes model atoms one) cell) cell

-- what a cell without a clash holds: a value that is known, or that of one symbol, which may be null or not
pub data Settled : Type 0 where
  known : Value → Settled
  free : Symbol → Bool → Settled

abbrev pub settled_by : Symbol → Possible → Settled
settled_by one (single value) = known value
settled_by one (multi nullable) = free one nullable

-- null where nothing is listed; else as the first symbol
abbrev pub settle : EntityModel → List AtomOf → List Symbol → Settled
settle model atoms [] = known Null
settle model atoms (one ∷ others) = settled_by one (possible model atoms one)
