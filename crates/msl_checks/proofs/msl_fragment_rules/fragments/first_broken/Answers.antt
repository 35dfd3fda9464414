use Rattle.std.proofs.Common.{◌⊎◌, List, [], codes, IfOk, subst, subst₂}
use Rattle.groupings.specs.least_fault.Least.{IsLeast}
use Rattle.layouts.specs.declared.fault.Fault.{Fault}
use Rattle.layouts.specs.declared.rule.Rule.TheVariants.{WritesKey, WrittenOnce}
use Rattle.layouts.specs.Faults.{fault_cmp}
use Rattle.layouts.specs.rule_places.Places.{IsAt, InList}
use Rattle.layouts.proofs.rule_places.Rules.{least_searches}
use Rattle.round_trip.specs.Words.{PropId}
use Rattle.round_trip.specs.soundness.Lookups.{set_key}
use Rattle.msl_rules.specs.declared.msl_lists.raw.RawPair.{RawPair}
use Rattle.msl_rules.specs.Found.{set_numbered}
use Rattle.msl_rules.specs.FragmentRules.{IsUnfitFault, IsCondFault, IsEnumFault, IsWrittenBefore}
use Rattle.msl_checks.specs.declared.msl_written.writing.Writing.{Writing}
use Rattle.msl_checks.specs.msl_written.Within.{named_in, schema_in}
use Rattle.msl_checks.specs.msl_fragment_rules.FragmentFaults.{LeavesKey}
use Rattle.msl_checks.proofs.msl_fragment_rules.fragments.first_broken.Goals as goal

pub returns : goal.returns
returns c =
    let writing = c.args.writing.now in
    let schema = schema_in writing.between in
    let named = named_in writing in
    let fragment = c.args.fragment.now in
    let Cond : List PropId → Fault → Type 0 = λ key. InList (codes "Condition") (IsCondFault schema named writing.table key) fragment.conds in
    let key : List PropId = set_key schema.model (set_numbered c.args.set) in
    let Unfit : Fault → Type 0 = InList (codes "ScalarProperty") (IsUnfitFault schema named writing.table) fragment.pairs in
    let Unwritten : Fault → Type 0 = λ fault. LeavesKey schema named c.args.set writing.table fragment.pairs × IsAt WritesKey [] fault in
    let Foreign : Fault → Type 0 = InList (codes "ScalarProperty") (IsEnumFault schema named writing.table) fragment.pairs in
    let Again : Fault → Type 0 = InList (codes "ScalarProperty") (λ k pair inside. IsWrittenBefore fragment.pairs k pair × IsAt WrittenOnce [] inside) fragment.pairs in
    let same = c.in_ok-pairs.ensures in
    let UnfitIn : Writing → List RawPair → Type 0 =
    λ within pairs. IfOk c.first_unfit-unfit.result (IsLeast fault_cmp (InList (codes "ScalarProperty") (IsUnfitFault (schema_in within.between) (named_in within) within.table) pairs)) in
    let unfit = subst₂ UnfitIn same.writing same.pairs c.first_unfit-unfit.ensures in
    let ForeignIn : Writing → List RawPair → Type 0 =
    λ within pairs. IfOk c.first_enum-foreign.result (IsLeast fault_cmp (InList (codes "ScalarProperty") (IsEnumFault (schema_in within.between) (named_in within) within.table) pairs)) in
    let foreign = subst₂ ForeignIn same.writing same.pairs c.first_enum-foreign.ensures in
    let UnwrittenIn : Writing → List RawPair → Type 0 =
    λ within pairs. IfOk c.first_unwritten-unwritten.result (IsLeast fault_cmp (λ fault. LeavesKey (schema_in within.between) (named_in within) c.args.set within.table pairs × IsAt WritesKey [] fault)) in
    let unwritten = subst₂ UnwrittenIn same.writing same.pairs c.first_unwritten-unwritten.ensures in
    let Found : List PropId → Type 0 = λ props. IfOk c.first_condition_fault-cond.result (IsLeast fault_cmp (Cond props)) in
    let cond = subst Found c.set_key-key.ensures c.first_condition_fault-cond.ensures in
    let AgainIn : List RawPair → Type 0 = λ pairs. IfOk c.first_again-again.result (IsLeast fault_cmp (InList (codes "ScalarProperty") (λ k pair inside. IsWrittenBefore pairs k pair × IsAt WrittenOnce [] inside) pairs)) in
    let again = subst AgainIn same.pairs c.first_again-again.ensures in
    least_searches Unfit (λ fault. Unwritten fault ⊎ Cond key fault ⊎ Foreign fault ⊎ Again fault) c.first_unfit-unfit.result c.earlier_of-2.result c.earlier_of-3.result
    c.earlier_of-3.ensures unfit
    (least_searches Unwritten (λ fault. Cond key fault ⊎ Foreign fault ⊎ Again fault) c.first_unwritten-unwritten.result c.earlier_of-behind.result c.earlier_of-2.result
    c.earlier_of-2.ensures unwritten
    (least_searches (Cond key) (λ fault. Foreign fault ⊎ Again fault) c.first_condition_fault-cond.result c.earlier_of.result c.earlier_of-behind.result
    c.earlier_of-behind.ensures cond
    (least_searches Foreign Again c.first_enum-foreign.result c.first_again-again.result c.earlier_of.result c.earlier_of.ensures foreign again)))
