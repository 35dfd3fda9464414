use Rattle.std.proofs.Common.{ℕ, [], codes, IsSome, None}
use Rattle.layouts.specs.declared.fault.Fault.{Fault}
use Rattle.layouts.specs.declared.rule.Rule.TheVariants.{ConditionForm}
use Rattle.layouts.specs.rule_places.Places.{InList, IsAt}
use Rattle.layouts.proofs.rule_places.Rules.{least_in_list_of_both, least_joined}
use Rattle.msl_rules.specs.declared.msl_lists.raw.RawCond.{RawCond}
use Rattle.msl_rules.specs.FragmentRules.{IsCondFault}
use Rattle.msl_checks.specs.msl_written.Within.{schema_in}
use Rattle.msl_checks.proofs.msl_link_rules.conditions.first_link_condition_fault.Goals as goal

pub returns : goal.returns
returns c =
    let conds = c.args.conds.now in
    let member = codes "Condition" in
    let Written : ℕ → RawCond → Fault → Type 0 = IsCondFault (schema_in c.args.between.now) (λ name. None) c.args.table [] in
    let OnProperty : ℕ → RawCond → Fault → Type 0 = λ k cond inside. IsSome cond.prop × IsAt ConditionForm [] inside in
    least_in_list_of_both member Written OnProperty conds c.earlier.result
    (least_joined (InList member Written conds) (InList member OnProperty conds) c.in_ok-written.written c.in_ok-properties.properties c.earlier.result c.earlier.ensures
    c.in_ok-written.ensures c.in_ok-properties.ensures)
