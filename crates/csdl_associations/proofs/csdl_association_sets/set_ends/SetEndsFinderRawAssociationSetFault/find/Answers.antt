use Rattle.std.proofs.Common.{◌↔◌, ◌⊎◌, ◌∷◌, [], IsTrue, codes, subst, ◌∙◌}
use Rattle.json_form.specs.declared.pointer.Step.TheVariants.{Member}
use Rattle.layouts.specs.declared.rule.Rule.TheVariants.{DependentKey, EndRoles, EndType}
use Rattle.groupings.specs.least_fault.Least.{IsLeast}
use Rattle.layouts.specs.declared.fault.Fault.{Fault}
use Rattle.layouts.specs.Faults.{fault_cmp}
use Rattle.layouts.specs.rule_places.Places.{IsAt}
use Rattle.layouts.proofs.rule_places.Rules.{least_searches, least_where, searched}
use Rattle.csdl_names.specs.declared.csdl_lists.raw.RawModel.{RawModel}
use Rattle.csdl_names.specs.csdl_lists.References.{names_in}
use Rattle.csdl_associations.specs.csdl_association_sets.SetEnds.{HasOtherRoles, IsDependentFault, IsRolesFault, IsTypesFault}
use Rattle.csdl_associations.specs.csdl_association_sets.Told.{BreaksDependent}
use Rattle.csdl_associations.proofs.csdl_association_sets.set_ends.SetEndsFinderRawAssociationSetFault.find.Goals as goal

pub returns : goal.returns
returns c =
    let model = c.args.self.now in
    let names = names_in model in
    let set = c.args.item.now in
    let place = c.args.arg3 in
    let Roles : RawModel → Type 0 = λ one. IsTrue c.in_ok-has_other_roles.has_other_roles ↔ HasOtherRoles (names_in one) one set in
    let Dependent : RawModel → Type 0 = λ one. IsTrue c.has_other_dependent-has_other_dependent.result ↔ BreaksDependent one set in
    let OfRoles : Fault → Type 0 = IsRolesFault names model place set in
    let OfDependent : Fault → Type 0 = IsDependentFault names model place set in
    let OfTypes : Fault → Type 0 = IsTypesFault names model place set in
    least_searches OfRoles (λ fault. OfDependent fault ⊎ OfTypes fault)
    c.fault_if-roles.result c.earlier_of.result c.earlier_of-2.result c.earlier_of-2.ensures
    (searched (IsLeast fault_cmp OfRoles) c.fault_if-roles.result c.fault_if-roles.ensures
    (λ found. least_where (IsAt EndRoles (Member (codes "End") ∷ [])) found (subst Roles c.self.view_is c.in_ok-has_other_roles.ensures)))
    (least_searches OfDependent OfTypes c.fault_here_if-dependent.result c.fault_if-types.result c.earlier_of.result c.earlier_of.ensures
    (searched (IsLeast fault_cmp OfDependent) c.fault_here_if-dependent.result c.fault_here_if-dependent.ensures
    (λ found. least_where (IsAt DependentKey []) found (subst Dependent (c.self.invariant.same ∙ c.self.view_is) c.has_other_dependent-has_other_dependent.ensures)))
    (searched (IsLeast fault_cmp OfTypes) c.fault_if-types.result c.fault_if-types.ensures
    (λ found. least_where (IsAt EndType (Member (codes "End") ∷ [])) found c.has_other_type.ensures)))
