-- What is told of a property that has one value or several, and constants of groups.
use Rattle.std.proofs.Common.{◌≡◌, ◌≢◌, ◌⊎◌, inl, inr, Bool, true, List, Contains, Option, Some, None, refl, sym, ◌∙◌}
use Rattle.std.specs.Option.{option_map_or}
use Rattle.emc_base.specs.declared.value.EnumKind.{EnumKind}
use Rattle.emc_base.specs.declared.value.Kind.TheVariants as kind
use Rattle.round_trip.specs.Words.{PropId, Value, Null, Kind, EntityModel}
use Rattle.round_trip.specs.soundness.mappings.Joined.{Joined, Member}
use Rattle.round_trip.specs.soundness.Kinds.{IsEnum}
use Rattle.round_trip.proofs.Classes.{class_of}
use Rattle.condition_logic.specs.declared.atoms.Atom.{Atom}
use Rattle.condition_logic.specs.declared.atoms.Atom.TheVariants as atom
use Rattle.condition_logic.specs.declared.atoms.AtomOf.{AtomOf}
use Rattle.member_groups.specs.Tested.{IsMember}
use Rattle.member_groups.proofs.Constants.{joined_constant}
use Rattle.regions.specs.declared.pattern.Symbol.TheVariants as symbol
use Rattle.regions.specs.Atoms.{atom_at}
use Rattle.regions.specs.Basis.{Basis}
use Rattle.regions.specs.Settled.{is_nullable, multi, of_atom, possible, single}
use Rattle.regions.specs.region_laws.IsBasis.{IsBasis}
use Rattle.region_states.proofs.defaults.Candidates.{IsPlainKind}

module _ (model : EntityModel) (atoms : List AtomOf) (p : PropId) where
  -- a property that may have several values is told no atom, or the last
  pub open_atom : (n : Bool) → possible model atoms (symbol.Prop p) ≡ multi n → (atom_at atoms p ≡ None) ⊎ (atom_at atoms p ≡ Some atom.Other)
  open_atom n several = by (atom_at atoms p) refl several
    where
      by : (found : Option Atom) → atom_at atoms p ≡ found → option_map_or of_atom found (multi (is_nullable model p)) ≡ multi n
          → (atom_at atoms p ≡ None) ⊎ (atom_at atoms p ≡ Some atom.Other)
      by None at same = inl at
      by (Some atom.Null) at same = cc
      by (Some (atom.Is one)) at same = cc
      by (Some atom.Other) at same = inr at

  -- none, where null is among them
  pub no_atom : possible model atoms (symbol.Prop p) ≡ multi true → atom_at atoms p ≡ None
  no_atom several = by (atom_at atoms p) refl several
    where
      by : (found : Option Atom) → atom_at atoms p ≡ found → option_map_or of_atom found (multi (is_nullable model p)) ≡ multi true → atom_at atoms p ≡ None
      by None at same = at
      by (Some atom.Null) at same = cc
      by (Some (atom.Is one)) at same = cc
      by (Some atom.Other) at same = cc

  -- one that has one value is told it
  pub is_atom : (v : Value) → v ≢ Null → possible model atoms (symbol.Prop p) ≡ single v → atom_at atoms p ≡ Some (atom.Is v)
  is_atom v some one = by (atom_at atoms p) refl one
    where
      by : (found : Option Atom) → atom_at atoms p ≡ found → option_map_or of_atom found (multi (is_nullable model p)) ≡ single v → atom_at atoms p ≡ Some (atom.Is v)
      by None at same = cc
      by (Some atom.Null) at same = absurd (some (let is : Null ≡ v = cc in sym is))
      by (Some (atom.Is w)) at same = let is : w ≡ v = cc in at ∙ (λ k. Some (atom.Is (is k)))
      by (Some atom.Other) at same = cc

-- an enumeration has a list of numbers
pub enum_is : (k : Kind) → IsEnum k → (enumeration : EnumKind) × (k ≡ kind.Enum enumeration)
enum_is kind.Boolean is = absurd is
enum_is kind.Byte is = absurd is
enum_is kind.Int16 is = absurd is
enum_is kind.Int32 is = absurd is
enum_is kind.Int64 is = absurd is
enum_is (kind.Text bound) is = absurd is
enum_is (kind.Binary bound) is = absurd is
enum_is (kind.Enum enumeration) is = (enumeration, refl)

-- a kind is one of flags, an enumeration, or neither
pub kind_cases : (k : Kind) → IsPlainKind k ⊎ (k ≡ kind.Boolean) ⊎ ((enumeration : EnumKind) × (k ≡ kind.Enum enumeration))
kind_cases kind.Boolean = inr (inl refl)
kind_cases kind.Byte = inl tt
kind_cases kind.Int16 = inl tt
kind_cases kind.Int32 = inl tt
kind_cases kind.Int64 = inl tt
kind_cases (kind.Text bound) = inl tt
kind_cases (kind.Binary bound) = inl tt
kind_cases (kind.Enum enumeration) = inr (inr (enumeration, refl))

-- what is neither isn't joined to flags
pub plain_class : (k : Kind) → IsPlainKind k → class_of k ≡ class_of kind.Boolean → ⊥
unfolding class_of
plain_class kind.Boolean plain same = plain
plain_class kind.Byte plain same = cc
plain_class kind.Int16 plain same = cc
plain_class kind.Int32 plain same = cc
plain_class kind.Int64 plain same = cc
plain_class (kind.Text bound) plain same = cc
plain_class (kind.Binary bound) plain same = cc
plain_class (kind.Enum enumeration) plain same = plain

-- as a basis tells them
pub constant_moves : (basis : Basis) → IsBasis basis → (one other : Member) → IsMember basis.schema one → IsMember basis.schema other → Joined basis.schema other one
    → (v : Value) → Contains (basis.constants one) v → Contains (basis.constants other) v
constant_moves basis is one other here there joins v has =
    ((is.constants other there).each v).1 (joined_constant basis.schema one other joins v (((is.constants one here).each v).0 has))
