-- What is known where an atom is one of a property's, and a value that lies in it.
use Rattle.std.proofs.Common.{◌≡◌, ⊎_elim, inl, inr, ℤ, List, [], ◌∷◌, ◌++◌, map, filter, Contains, Bool, true, false, if◌then◌else◌, IsTrue, refl, sym, subst}
use Rattle.std.proofs.lemmas.List.Elements.{Contains-append_cases}
use Rattle.emc_base.specs.declared.value.Kind.TheVariants as kind
use Rattle.emc_base.proofs.Numbered.{filter_contains, map_contains}
use Rattle.round_trip.specs.Words.{PropId, Value, Null, Whole, Flag, Kind, Prop, At, InDomain}
use Rattle.round_trip.specs.soundness.mappings.Joined.{prop}
use Rattle.condition_logic.specs.declared.atoms.Atom.{Atom}
use Rattle.condition_logic.specs.declared.atoms.Atom.TheVariants as atom
use Rattle.schema_laws.proofs.state_demand.lists.Lists.{member_cases, none_in_nil}
use Rattle.cells.specs.Limits.{IsWithinLimits}
use Rattle.regions.specs.Fitting.{DecidesDomains}
use Rattle.regions.specs.Atoms.{Allows, LiesIn, atoms_of, kind_atoms}
use Rattle.regions.specs.Basis.{Basis}
use Rattle.regions.specs.region_laws.IsBasis.{IsBasis}
use Rattle.regions.proofs.region_laws.values.Atoms.{not_null}
use Rattle.region_states.specs.defaults.Candidates.{AreTwoFree, first_free, next_free}
use Rattle.region_states.proofs.defaults.Candidates.{IsPlainKind}
use Rattle.region_states.proofs.defaults.groups.Constants.{plain_two}

-- of an atom that isn't null: its value is in the domain, and a constant where the kind is neither of flags nor an enumeration
abbrev KindTells : Kind → List Value → Atom → Type 0
KindTells k constants atom.Null = ⊥
KindTells k constants (atom.Is v) = InDomain v k × (IsPlainKind k → Contains constants v)
KindTells k constants atom.Other = IsPlainKind k

abbrev pub Tells : Prop → List Value → Atom → Type 0
Tells declared constants atom.Null = IsTrue declared.nullable
Tells declared constants (atom.Is v) = InDomain v declared.kind × (IsPlainKind declared.kind → Contains constants v)
Tells declared constants atom.Other = IsPlainKind declared.kind

module _ (fits : Value → Kind → Bool) (decides : DecidesDomains fits) (constants : List Value) where
  plain_tells : (k : Kind) → IsPlainKind k → (a : Atom) → Contains (map (λ v. atom.Is v) (filter (λ v. fits v k) constants) ++ atom.Other ∷ []) a → KindTells k constants a
  plain_tells k plain a has =
      let in_domain : List Value = filter (λ v. fits v k) constants in
      let made : Value → Atom = λ v. atom.Is v in
      ⊎_elim
      (λ (among : Contains (map made in_domain) a).
      let found = map_contains made in_domain a among in
      let kept = filter_contains (λ v. fits v k) constants found.0 found.1 in
      let is : KindTells k constants (atom.Is found.0) = ((decides.tells found.0 k).0 kept.1, λ any. kept.0) in
      subst (KindTells k constants) found.2 is)
      (λ (last : Contains (atom.Other ∷ []) a). ⊎_elim
      (λ (here : a ≡ atom.Other). subst (KindTells k constants) (sym here) plain)
      (λ (none : Contains [] a). absurd (none_in_nil a none))
      (member_cases atom.Other [] a last))
      (Contains-append_cases (map made in_domain) (atom.Other ∷ []) a has)

  kind_tells : (k : Kind) (a : Atom) → Contains (kind_atoms fits k constants) a → KindTells k constants a
  kind_tells kind.Byte a has = plain_tells kind.Byte tt a has
  kind_tells kind.Int16 a has = plain_tells kind.Int16 tt a has
  kind_tells kind.Int32 a has = plain_tells kind.Int32 tt a has
  kind_tells kind.Int64 a has = plain_tells kind.Int64 tt a has
  kind_tells kind.Boolean a has =
      let flag : (b : Bool) → KindTells kind.Boolean constants (atom.Is (Flag b)) = λ b. (tt, λ plain. absurd plain) in
      ⊎_elim
      (λ (here : a ≡ atom.Is (Flag false)). subst (KindTells kind.Boolean constants) (sym here) (flag false))
      (λ (later : Contains (atom.Is (Flag true) ∷ []) a). ⊎_elim
      (λ (here : a ≡ atom.Is (Flag true)). subst (KindTells kind.Boolean constants) (sym here) (flag true))
      (λ (none : Contains [] a). absurd (none_in_nil a none))
      (member_cases (atom.Is (Flag true)) [] a later))
      (member_cases (atom.Is (Flag false)) (atom.Is (Flag true) ∷ []) a has)
  kind_tells (kind.Text bound) a has = plain_tells (kind.Text bound) tt a has
  kind_tells (kind.Binary bound) a has = plain_tells (kind.Binary bound) tt a has
  kind_tells (kind.Enum enumeration) a has =
      let found = map_contains (λ (one : ℤ). atom.Is (Whole one)) enumeration.members a has in
      let is : KindTells (kind.Enum enumeration) constants (atom.Is (Whole found.0)) = (found.1, λ plain. absurd plain) in
      subst (KindTells (kind.Enum enumeration) constants) found.2 is

  widened : (declared : Prop) (a : Atom) → KindTells declared.kind constants a → Tells declared constants a
  widened declared atom.Null tells = absurd tells
  widened declared (atom.Is v) tells = tells
  widened declared atom.Other tells = tells

  null_told : (nullable : Bool) (a : Atom) → Contains (if nullable then atom.Null ∷ [] else []) a → (a ≡ atom.Null) × IsTrue nullable
  null_told true a has = ⊎_elim (λ (here : a ≡ atom.Null). (here, refl)) (λ (none : Contains [] a). absurd (none_in_nil a none)) (member_cases atom.Null [] a has)
  null_told false a has = absurd (none_in_nil a has)

  -- what an atom of the property tells
  pub atom_tells : (declared : Prop) (a : Atom) → Contains (atoms_of fits declared constants) a → Tells declared constants a
  atom_tells declared a has = ⊎_elim
      (λ (first : Contains (if declared.nullable then atom.Null ∷ [] else []) a).
      let null = null_told declared.nullable a first in
      subst (Tells declared constants) (sym null.0) null.1)
      (λ (later : Contains (kind_atoms fits declared.kind constants) a). widened declared a (kind_tells declared.kind a later))
      (Contains-append_cases (if declared.nullable then atom.Null ∷ [] else []) (kind_atoms fits declared.kind constants) a has)

-- each atom has a value
pub value_there : (basis : Basis) → IsBasis basis → IsWithinLimits basis.schema → (p : PropId) (declared : Prop) → At basis.schema.model.props p.index declared → (a : Atom)
    → Contains (atoms_of basis.fits declared (basis.constants (prop p))) a → (v : Value) × Allows declared v × LiesIn (basis.constants (prop p)) a v
value_there basis is limits p declared here a has = by a (atom_tells basis.fits is.domains (basis.constants (prop p)) declared a has)
  where
    by : (a : Atom) → Tells declared (basis.constants (prop p)) a → (v : Value) × Allows declared v × LiesIn (basis.constants (prop p)) a v
    by atom.Null told = (Null, inl (refl, told), refl)
    by (atom.Is v) told = (v, inr told.0, refl)
    by atom.Other told =
        let constants : List Value = basis.constants (prop p) in
        let two : AreTwoFree declared.kind constants (first_free declared.kind constants) (next_free declared.kind constants) = plain_two basis is p declared here limits told in
        (first_free declared.kind constants, inr two.one_fits, (not_null declared.kind (first_free declared.kind constants) two.one_fits, two.one_free))
