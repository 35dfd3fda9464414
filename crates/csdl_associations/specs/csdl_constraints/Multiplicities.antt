-- Which multiplicities an association may have, with a constraint and without.
-- Source: CSDL version 3, Association, End, Multiplicity and ReferentialConstraint. Which are allowed is the profile's choice: a link that
-- must be there, and is the only one, could force states that never end.
use Rattle.std.specs.Prelude.{◌≡◌, ◌≢◌, ◌⊎◌, ℕ, List, [], ◌∷◌, Some, option_map, codes, MatchOption}
use Rattle.json_form.specs.declared.pointer.Step.TheVariants.{Member}
use Rattle.layouts.specs.declared.fault.Fault.{Fault}
use Rattle.layouts.specs.declared.rule.Rule.TheVariants.{Multiplicities}
use Rattle.layouts.specs.rule_places.Places.{IsAt}
use Rattle.csdl_names.specs.declared.csdl_lists.raw.RawAssociation.{RawAssociation}
use Rattle.csdl_names.specs.declared.csdl_lists.raw.RawConstraint.{RawConstraint}
use Rattle.csdl_names.specs.declared.csdl_lists.raw.RawEnd.{RawEnd}
use Rattle.csdl_names.specs.declared.csdl_lists.raw.RawModel.{RawModel}
use Rattle.csdl_names.specs.csdl_lists.References.{Names}
use Rattle.csdl_names.specs.Unresolved.{end_of_role}
use Rattle.csdl_associations.specs.csdl_constraints.Sides.{HasNullable, IsNamed, IsWholeKey}

-- one end is exactly one, and the other isn't any number
abbrev pub IsOneWithoutMany : RawEnd → RawEnd → Type 0
IsOneWithoutMany end other = (end.multiplicity ≡ codes "1") × (other.multiplicity ≢ codes "*")

-- without a constraint: exactly one stands only opposite any number
abbrev pub BreaksFreeMults : List RawEnd → Type 0
BreaksFreeMults (first ∷ second ∷ []) = IsOneWithoutMany first second ⊎ IsOneWithoutMany second first
BreaksFreeMults _ = ⊥

-- the end of this role has the multiplicity
abbrev pub HasMult : RawAssociation → List ℕ → List ℕ → Type 0
HasMult association role multiplicity = option_map (λ end. end.multiplicity) (end_of_role association role) ≡ Some multiplicity

-- the end of this role is neither exactly one nor at most one
abbrev pub IsNoPrincipal : RawAssociation → List ℕ → Type 0
IsNoPrincipal association role = (¬ HasMult association role (codes "1")) × (¬ HasMult association role (codes "0..1"))

module _ (names : Names) (model : RawModel) where
  -- the principal is exactly one, and a dependent property may be null
  abbrev pub IsPrincipalOfNull : RawAssociation → RawConstraint → Type 0
  IsPrincipalOfNull association constraint = HasMult association constraint.principal.role (codes "1") × HasNullable names model association constraint.dependent

  -- there is at most one dependent, and the dependent properties aren't the whole key of their type
  abbrev pub IsLooseDependent : RawAssociation → RawConstraint → Type 0
  IsLooseDependent association constraint = HasMult association constraint.dependent.role (codes "0..1") × ¬ IsWholeKey names model association constraint.dependent

  -- with a constraint: at most one principal, and exactly one only where no dependent property may be null; any number of dependents, or at
  -- most one where the dependent properties are the whole key of their type
  abbrev pub BreaksConstraintMults : RawAssociation → RawConstraint → Type 0
  BreaksConstraintMults association constraint =
      IsNoPrincipal association constraint.principal.role
      ⊎ IsPrincipalOfNull association constraint
      ⊎ HasMult association constraint.dependent.role (codes "1")
      ⊎ IsLooseDependent association constraint

  -- an association has multiplicities that aren't allowed
  abbrev pub BreaksMults : RawAssociation → Type 0
  BreaksMults association = MatchOption association.constraint (BreaksFreeMults association.ends) (BreaksConstraintMults association)

  -- V16, seen from the association at a place, which some association set names
  abbrev pub IsMultFault : ℕ → RawAssociation → Fault → Type 0
  IsMultFault a association fault = (IsNamed names model a × BreaksMults association) × IsAt Multiplicities (Member (codes "End") ∷ []) fault
