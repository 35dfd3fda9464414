use Rattle.std.proofs.Common.{◌≡◌, subst, sym, ◌∙◌}
use Rattle.csdl_names.specs.declared.csdl_lists.raw.RawModel.{RawModel}
use Rattle.csdl_names.specs.csdl_lists.References.{names_in}
use Rattle.csdl_names.specs.SetRoles.{set_of_role}
use Rattle.csdl_associations.proofs.csdl_association_sets.KnownConstraints.{an_arrow, no_dependent, no_principal}
use Rattle.csdl_associations.proofs.csdl_association_sets.constraints.Constraints.arrow_of.Goals as goal

pub returns-in_err-from : goal.returns-in_err-from
returns-in_err-from c =
    let known = c.in_ok-known.known in
    let Role : RawModel → Type 0 = λ one. c.set_of_role.result ≡ set_of_role (names_in one) one c.args.set.now known.constraint.now.dependent.role in
    no_dependent c.args.self.now c.args.set.now known c.in_ok-known.ensures (sym (subst Role c.self.view_is c.set_of_role.ensures) ∙ c.in_err-from.was)
    c.from_residual-in_err-from.result c.from_residual-in_err-from.ensures

pub returns-in_err-to : goal.returns-in_err-to
returns-in_err-to c =
    let known = c.in_ok-known.known in
    let Role : RawModel → Type 0 = λ one. c.set_of_role-2.result ≡ set_of_role (names_in one) one c.args.set.now known.constraint.now.principal.role in
    no_principal c.args.self.now c.args.set.now known c.in_ok-known.ensures (sym (subst Role c.self.view_is c.set_of_role-2.ensures) ∙ c.in_err-to.was)
    c.from_residual-in_err-to.result c.from_residual-in_err-to.ensures

pub returns : goal.returns
returns c =
    let known = c.in_ok-known.known in
    let Dependent : RawModel → Type 0 = λ one. c.set_of_role.result ≡ set_of_role (names_in one) one c.args.set.now known.constraint.now.dependent.role in
    let Principal : RawModel → Type 0 = λ one. c.set_of_role-2.result ≡ set_of_role (names_in one) one c.args.set.now known.constraint.now.principal.role in
    an_arrow c.args.self.now c.args.set.now known c.in_ok-known.ensures (c.decides_key.ensures.0 c.if-not-decides_key.false) c.in_ok-from.from c.in_ok-to.to
    (sym (subst Dependent c.self.view_is c.set_of_role.ensures) ∙ c.in_ok-from.was) (sym (subst Principal c.self.view_is c.set_of_role-2.ensures) ∙ c.in_ok-to.was)
