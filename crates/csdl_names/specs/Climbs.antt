-- How many types the look-ups of properties look at, each from a type up, and whether that is allowed.
use Rattle.std.specs.Prelude.{◌+◌, ◌≡◌, ◌<◌, ◌≤◌, ℕ, zero, suc, List, length, Result, Ok, Err, cond, sum_by}
use Rattle.std.specs.List.{enumerate_from}
use Rattle.std.specs.Option.{is_some, option_map_or}
use Rattle.csdl_names.specs.declared.csdl_lists.raw.RawAssociation.{RawAssociation}
use Rattle.csdl_names.specs.declared.csdl_lists.raw.RawModel.{RawModel}
use Rattle.csdl_names.specs.declared.csdl_lists.raw.RawRole.{RawRole}
use Rattle.csdl_names.specs.declared.csdl_lists.raw.RawType.{RawType}
use Rattle.csdl_names.specs.csdl_lists.References.{Names, base_of, names_in}
use Rattle.csdl_names.specs.PropPlaces.{own_prop}
use Rattle.csdl_names.specs.Unresolved.{type_of_role}

module _ (names : Names) (model : RawModel) where
  -- for the property of this name, from the type at a place up, until one declares it or has no base type; so many types at most
  abbrev pub steps_upto : ℕ → ℕ → List ℕ → ℕ
  steps_upto zero i name = 0
  steps_upto (suc n) i name = cond (is_some (own_prop names model i name)) 1 (option_map_or (λ base. 1 + steps_upto n base name) (base_of names model i) 1)

  -- for each of these names, from the same type; as many as there are types where they come round in a circle
  abbrev pub steps_of_names : ℕ → List (List ℕ) → ℕ
  steps_of_names i = sum_by (steps_upto (length model.types) i)

  -- for the names of a type's key
  abbrev pub steps_of_key : ℕ → RawType → ℕ
  steps_of_key i type = option_map_or (steps_of_names i) type.key 0

  -- for those of the Principal or the Dependent of a constraint, where the type of its role is found
  abbrev pub steps_of_role : RawAssociation → RawRole → ℕ
  steps_of_role association role = option_map_or (λ type. steps_of_names type role.props) (type_of_role names model association role.role) 0

  -- for those of an association's constraint
  abbrev pub steps_of_constraint : RawAssociation → ℕ
  steps_of_constraint association =
      option_map_or (λ constraint. steps_of_role association constraint.principal + steps_of_role association constraint.dependent) association.constraint 0

  -- for those of all keys
  abbrev pub steps_of_keys : ℕ
  steps_of_keys = sum_by (λ placed. steps_of_key placed.0 placed.1) (enumerate_from 0 model.types)

  -- for those of all constraints
  abbrev pub steps_of_constraints : ℕ
  steps_of_constraints = sum_by steps_of_constraint model.associations

-- the look-ups of all keys and constraints look at no more types than the largest document has bytes
abbrev pub AllowsClimbs : RawModel → Type 0
AllowsClimbs model = steps_of_keys (names_in model) model + steps_of_constraints (names_in model) model ≤ 16777216

-- what is left of so many steps once these are taken; refused exactly where they are more
abbrev pub Leaves : {E : Type 0} → ℕ → ℕ → Result ℕ E → Type 0
Leaves most steps (Ok left) = left + steps ≡ most
Leaves most steps (Err _) = most < steps
