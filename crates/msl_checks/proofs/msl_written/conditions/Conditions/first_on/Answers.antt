use Rattle.std.proofs.Common.{◌⊎◌, ◌∷◌, [], Option, Some, codes}
use Rattle.json_form.specs.declared.pointer.Step.TheVariants.{Member}
use Rattle.layouts.specs.declared.fault.Fault.{Fault}
use Rattle.layouts.specs.declared.rule.Rule.TheVariants.{ConditionValue, ForeignValue, KeyCondition}
use Rattle.layouts.specs.rule_places.Places.{IsAt}
use Rattle.layouts.proofs.rule_places.Rules.{least_searched, least_searches}
use Rattle.round_trip.specs.Words.{CondOn}
use Rattle.msl_checks.specs.msl_written.OnConditions.{IsForeign, IsKey, IsValue}
use Rattle.msl_checks.proofs.msl_written.CondFaults.{compares}
use Rattle.msl_checks.proofs.msl_written.conditions.Conditions.first_on.Goals as goal

pub returns : goal.returns
returns c =
    let writing = c.args.self.now.writing.now in
    let key = c.args.self.now.key.now in
    let cond = c.args.cond.now in
    let known : Option CondOn = Some c.args.what in
    let Value : Fault → Type 0 = IsValue writing key cond known in
    let Key : Fault → Type 0 = IsKey writing key cond known in
    let Foreign : Fault → Type 0 = IsForeign writing key cond known in
    let same = compares writing key cond c.args.what in
    let value = least_searched (IsAt ConditionValue (Member (codes "Value") ∷ [])) c.fault_if-value.result c.in_ok-has_no_value.ensures c.fault_if-value.ensures in
    let of_key = least_searched (IsAt KeyCondition []) c.fault_here_if-key.result c.is_of_key-is_of_key.ensures c.fault_here_if-key.ensures in
    let foreign = least_searched (IsAt ForeignValue []) c.fault_here_if-foreign.result
    (λ yes. same.0 (c.in_ok-is_foreign.ensures.0 yes), λ wrong. c.in_ok-is_foreign.ensures.1 (same.1 wrong)) c.fault_here_if-foreign.ensures in
    least_searches Value (λ fault. Key fault ⊎ Foreign fault) c.fault_if-value.result c.earlier_of.result c.earlier_of-2.result c.earlier_of-2.ensures value
    (least_searches Key Foreign c.fault_here_if-key.result c.fault_here_if-foreign.result c.earlier_of.result c.earlier_of.ensures of_key foreign)
