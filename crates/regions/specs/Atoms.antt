-- Atoms: what is known of the value of a tested property.
-- Source: this project's; the cells by which the mapping compiler of Melnik, Adya and Bernstein, SIGMOD 2007, divides entities.
use Rattle.std.specs.Prelude.{◌≡◌, ◌≢◌, ◌⊎◌, ◌==◌, ◌++◌, List, [], ◌∷◌, map, filter, find, Contains, Bool, true, false, IsTrue, Option, option_map, if◌then◌else◌}
use Rattle.std.specs.List.{list_any}
use Rattle.round_trip.specs.Words.{PropId, Value, Null, Whole, Flag, Kind, Prop, InDomain}
use Rattle.emc_base.specs.declared.value.Kind.TheVariants as kind
use Rattle.condition_logic.specs.declared.atoms.Atom.{Atom}
use Rattle.condition_logic.specs.declared.atoms.Atom.TheVariants as atom
use Rattle.condition_logic.specs.declared.atoms.AtomOf.{AtomOf}
use Rattle.schema_laws.specs.state_demand.Selecting.{same_value}

-- a value lies in an atom: null, the one value, or neither null nor one of the constants
abbrev pub LiesIn : List Value → Atom → Value → Type 0
LiesIn constants atom.Null value = value ≡ Null
LiesIn constants (atom.Is one) value = value ≡ one
LiesIn constants atom.Other value = (value ≢ Null) × ¬ Contains constants value

-- a value that the property may hold: null where it is nullable, or one in its domain
abbrev pub Allows : Prop → Value → Type 0
Allows declared value = ((value ≡ Null) × IsTrue declared.nullable) ⊎ InDomain value declared.kind

-- the atoms of values that aren't null: both flags; the numbers of an enumeration; or each constant in the domain, and all other values
abbrev pub kind_atoms : (Value → Kind → Bool) → Kind → List Value → List Atom
kind_atoms fits kind.Boolean constants = atom.Is (Flag false) ∷ atom.Is (Flag true) ∷ []
kind_atoms fits (kind.Enum enumeration) constants = map (λ number. atom.Is (Whole number)) enumeration.members
kind_atoms fits kind constants = map (λ value. atom.Is value) (filter (λ value. fits value kind) constants) ++ atom.Other ∷ []

-- the atoms of a tested property, in their order
abbrev pub atoms_of : (Value → Kind → Bool) → Prop → List Value → List Atom
atoms_of fits declared constants = (if declared.nullable then atom.Null ∷ [] else []) ++ kind_atoms fits declared.kind constants

-- the atom of a value that isn't null
abbrev pub kind_atom : Kind → List Value → Value → Atom
kind_atom kind.Boolean constants value = atom.Is value
kind_atom (kind.Enum enumeration) constants value = atom.Is value
kind_atom kind constants value = if list_any (same_value value) constants then atom.Is value else atom.Other

-- the atom of a value that the property may hold
abbrev pub atom_of : Prop → List Value → Value → Atom
atom_of declared constants value = if same_value value Null then atom.Null else kind_atom declared.kind constants value

-- the atom of a property among those told; None where there is none
abbrev pub atom_at : List AtomOf → PropId → Option Atom
atom_at atoms prop = option_map (λ told. told.atom) (find (λ told. told.prop.index == prop.index) atoms)
