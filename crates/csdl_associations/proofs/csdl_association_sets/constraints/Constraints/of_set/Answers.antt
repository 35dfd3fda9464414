use Rattle.std.proofs.Common.{◌≡◌, List, None, Option, ap, slice_get, subst, sym, ◌∙◌}
use Rattle.std.specs.Option.{option_and_then}
use Rattle.std.proofs.lemmas.Option.{none-some}
use Rattle.emc_base.specs.Lists.{At}
use Rattle.csdl_associations.specs.declared.csdl_constraints.dependent.Dependent.{Dependent}
use Rattle.csdl_associations.specs.csdl_constraints.Told.{IsToldOf}
use Rattle.csdl_names.specs.declared.csdl_lists.raw.RawModel.{RawModel}
use Rattle.csdl_names.specs.csdl_lists.References.{names_in}
use Rattle.csdl_associations.specs.csdl_association_sets.Told.{IsKnownOf}
use Rattle.csdl_associations.proofs.csdl_association_sets.KnownConstraints.{known_from, told_there}
use Rattle.csdl_associations.proofs.csdl_association_sets.constraints.Constraints.of_set.Goals as goal

pub returns-in_err-dependent : goal.returns-in_err-dependent
returns-in_err-dependent c =
    let model = c.self.inside.lookups.now.model.now in
    let place = c.in_ok-place.place in
    let association = c.in_ok-association.association.now in
    let At_place : List (Option Dependent) → Type 0 = λ told. (known : Option Dependent) → At told place known → c.told_at.result ≡ known in
    let told = told_there model c.args.set.now c.self.inside.told.items c.self.invariant place association (sym c.in_ok-association.ensures.item) c.told_at.result
    (subst At_place c.as_slice.ensures.value c.told_at.ensures) in
    let Told : Option Dependent → Type 0 = λ o. IsToldOf (names_in model) model association o in
    let none : association.constraint ≡ None = subst Told c.in_err-dependent.was told in
    absurd (none-some c.in_ok-constraint.constraint.now (sym none ∙ sym c.in_ok-constraint.ensures.value))

pub returns : goal.returns
returns c =
    let model = c.self.inside.lookups.now.model.now in
    let place = c.in_ok-place.place in
    let association = c.in_ok-association.association.now in
    let At_place : List (Option Dependent) → Type 0 = λ told. (known : Option Dependent) → At told place known → c.told_at.result ≡ known in
    let told = told_there model c.args.set.now c.self.inside.told.items c.self.invariant place association (sym c.in_ok-association.ensures.item) c.told_at.result
    (subst At_place c.as_slice.ensures.value c.told_at.ensures) in
    let Told : Option Dependent → Type 0 = λ o. IsToldOf (names_in model) model association o in
    let Known : RawModel → Type 0 = λ one. IsKnownOf one c.args.set.now (record {
      association = c.in_ok-association.association;
      constraint = c.in_ok-constraint.constraint;
      dependent = c.in_ok-dependent.dependent;
    }) in
    subst Known c.self.view_is (known_from model c.args.set.now c.in_ok-association.association c.in_ok-constraint.constraint c.in_ok-dependent.dependent
    (ap (option_and_then (slice_get model.associations)) (sym c.association_named.ensures ∙ c.in_ok-place.was) ∙ sym c.in_ok-association.ensures.item)
    (sym c.in_ok-constraint.ensures.value) (subst Told c.in_ok-dependent.was told))
