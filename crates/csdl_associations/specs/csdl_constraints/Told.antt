-- What is told of the Dependent of each association.
use Rattle.std.specs.Prelude.{◌≡◌, ◌↔◌, ℕ, List, length, Option, Some, None, IsTrue}
use Rattle.emc_base.specs.Lists.{At}
use Rattle.csdl_names.specs.declared.csdl_lists.raw.RawAssociation.{RawAssociation}
use Rattle.csdl_names.specs.declared.csdl_lists.raw.RawConstraint.{RawConstraint}
use Rattle.csdl_names.specs.declared.csdl_lists.raw.RawModel.{RawModel}
use Rattle.csdl_names.specs.csdl_lists.References.{Names, names_in}
use Rattle.csdl_associations.specs.declared.csdl_constraints.dependent.Dependent.{Dependent}
use Rattle.csdl_associations.specs.csdl_constraints.Sides.{HasKeyProp, HasNullable}

-- beside each item stands what is told of it
pub record Beside {X Y : Type 0} (R : X → Y → Type 0) (xs : List X) (ys : List Y) : Type 0 where
  pub alike : length ys ≡ length xs
  pub each : (i : ℕ) (x : X) (y : Y) → At xs i x → At ys i y → R x y

module _ (names : Names) (model : RawModel) where
  -- the constraint is that of the association, and its Dependent is as told
  pub record TellsDependent (association : RawAssociation) (told : Dependent) : Type 0 where
    pub constraint : RawConstraint
    pub is : association.constraint ≡ Some constraint
    pub key_prop : IsTrue told.has_key_prop ↔ HasKeyProp names model association constraint.dependent
    pub nullable : IsTrue told.has_nullable ↔ HasNullable names model association constraint.dependent

  -- nothing exactly without a constraint
  abbrev pub IsToldOf : RawAssociation → Option Dependent → Type 0
  IsToldOf association None = association.constraint ≡ None
  IsToldOf association (Some told) = TellsDependent association told

  -- beside each of these associations stands what is told of its Dependent
  abbrev pub AreToldOf : List RawAssociation → List (Option Dependent) → Type 0
  AreToldOf = Beside IsToldOf

-- the same of all associations of a model
abbrev pub AreDependents : RawModel → List (Option Dependent) → Type 0
AreDependents model = AreToldOf (names_in model) model model.associations
