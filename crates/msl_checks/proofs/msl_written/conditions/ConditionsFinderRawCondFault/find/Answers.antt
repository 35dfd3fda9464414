use Rattle.std.proofs.Common.{◌≡◌, ◌⊎◌, [], IfOk, Option, None, Some, ap, sym, subst, ◌∙◌}
use Rattle.std.proofs.lemmas.Result.{IfOk-weaker}
use Rattle.groupings.specs.least_fault.Least.{IsLeast}
use Rattle.layouts.specs.declared.rule.Rule.TheVariants.{ConditionForm}
use Rattle.layouts.specs.Faults.{fault_cmp}
use Rattle.layouts.specs.rule_places.Places.{IsAt}
use Rattle.layouts.proofs.rule_places.LeastFound.{first_only, none_of}
use Rattle.layouts.proofs.rule_places.Rules.{least_searched, least_searches}
use Rattle.round_trip.specs.Words.{CondOn}
use Rattle.msl_checks.specs.msl_written.OnConditions.{IsForm, IsOn}
use Rattle.msl_checks.proofs.msl_written.CondFaults.{on_by, on_nothing}
use Rattle.msl_checks.proofs.msl_written.conditions.ConditionsFinderRawCondFault.find.Goals as goal

pub returns-in_default : goal.returns-in_default
returns-in_default c =
    let writing = c.args.self.now.writing.now in
    let key = c.args.self.now.key.now in
    let cond = c.args.item.now in
    let form = c.fault_here_if-form.result in
    let Whole : Option CondOn → Type 0 = λ known. IfOk form (IsLeast fault_cmp (λ fault. IsForm writing key cond fault ⊎ IsOn writing key cond known fault)) in
    let nothing : None ≡ c.condition_on.result = sym (none_of c.condition_on.result c.in_default.not-Some) in
    subst Whole (nothing ∙ c.condition_on.ensures ∙ ap (on_by cond) c.found.ensures)
    (IfOk-weaker form (IsLeast fault_cmp (IsForm writing key cond)) _ (λ found. first_only (IsForm writing key cond) (IsOn writing key cond None) found (on_nothing writing key cond))
    (least_searched (IsAt ConditionForm []) form c.is_ill_formed.ensures c.fault_here_if-form.ensures))

pub returns : goal.returns
returns c =
    let writing = c.args.self.now.writing.now in
    let key = c.args.self.now.key.now in
    let cond = c.args.item.now in
    let known : Option CondOn = Some c.in-Some.what in
    let form = least_searched (IsAt ConditionForm []) c.fault_here_if-form.result c.is_ill_formed.ensures c.fault_here_if-form.ensures in
    let Whole : Option CondOn → Type 0 = λ on. IfOk c.earlier_of.result (IsLeast fault_cmp (λ fault. IsForm writing key cond fault ⊎ IsOn writing key cond on fault)) in
    subst Whole (sym c.in-Some.is ∙ c.condition_on.ensures ∙ ap (on_by cond) c.found.ensures)
    (least_searches (IsForm writing key cond) (IsOn writing key cond known) c.fault_here_if-form.result c.first_on-on.result c.earlier_of.result c.earlier_of.ensures form
    c.first_on-on.ensures)
