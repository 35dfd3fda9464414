-- The entity sets at the ends of an association set are places in the list of entity sets.
use Rattle.std.proofs.Common.{◌≡◌, ℕ, ◌<◌, List, length, Some}
use Rattle.std.proofs.lemmas.Option.{option_and_then_some}
use Rattle.csdl_names.specs.declared.csdl_lists.raw.RawAssociationSet.{RawAssociationSet}
use Rattle.csdl_names.specs.declared.csdl_lists.raw.RawModel.{RawModel}
use Rattle.csdl_names.specs.csdl_lists.References.{names_in}
use Rattle.csdl_names.proofs.csdl_lists.Within.{set_within}
use Rattle.csdl_names.specs.SetRoles.{set_end_of_role, set_of_role}

module _ (model : RawModel) where
  -- the entity set at an end
  pub role_within : (set : RawAssociationSet) (role : List ℕ) (i : ℕ) → set_of_role (names_in model) model set role ≡ Some i → i < length model.container.sets
  role_within set role i is =
      option_and_then_some (λ end. (names_in model).set_named end.set) (set_end_of_role set role) i is (λ end here named. set_within model end.set i named)
