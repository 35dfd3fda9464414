use Rattle.std.proofs.Common.{◌⊎◌, List, [], codes, IfOk, subst₂}
use Rattle.groupings.specs.least_fault.Least.{IsLeast}
use Rattle.layouts.specs.declared.fault.Fault.{Fault}
use Rattle.layouts.specs.declared.rule.Rule.TheVariants.{WritesKey}
use Rattle.layouts.specs.Faults.{fault_cmp}
use Rattle.layouts.specs.rule_places.Places.{InList, IsAt}
use Rattle.layouts.proofs.rule_places.Rules.{least_searched, least_searches}
use Rattle.schema_names.specs.SchemaNames.{prop_named}
use Rattle.msl_rules.specs.declared.msl_lists.raw.RawPair.{RawPair}
use Rattle.msl_rules.specs.FragmentRules.{IsUnfitFault}
use Rattle.msl_rules.specs.LinkRules.{IsEndKeyUnwritten}
use Rattle.msl_checks.specs.declared.msl_written.writing.Writing.{Writing}
use Rattle.msl_checks.specs.msl_written.Within.{named_in, schema_in}
use Rattle.msl_checks.specs.msl_link_rules.LinkParts.{WritesAgain}
use Rattle.msl_checks.proofs.msl_link_rules.ends.InEnds.first_at_end.Goals as goal

pub returns : goal.returns
returns c =
    let self = c.args.self.now in
    let schema = schema_in self.of.between in
    let known = c.args.known.now in
    let end = c.args.end.now in
    let Unfit : Fault → Type 0 = InList (codes "ScalarProperty") (IsUnfitFault schema (prop_named schema.model known.ty.index) self.table) end.pairs in
    let Key : Fault → Type 0 = λ fault. IsEndKeyUnwritten schema self.table known end × IsAt WritesKey [] fault in
    let Again : Fault → Type 0 = WritesAgain self.of.link.now.ends c.args.place end in
    let UnfitIn : Writing → List RawPair → Type 0 =
    λ within written. IfOk c.first_unfit-unfit.result (IsLeast fault_cmp (InList (codes "ScalarProperty") (IsUnfitFault (schema_in within.between) (named_in within) within.table) written)) in
    let unfit = subst₂ UnfitIn c.in_ok-pairs.ensures.writing c.in_ok-pairs.ensures.pairs c.first_unfit-unfit.ensures in
    least_searches Unfit (λ fault. Key fault ⊎ Again fault) c.first_unfit-unfit.result c.earlier_of.result c.earlier_of-2.result c.earlier_of-2.ensures unfit
    (least_searches Key Again c.fault_here_if-key.result c.first_again-again.result c.earlier_of.result c.earlier_of.ensures
    (least_searched (IsAt WritesKey []) c.fault_here_if-key.result c.in_ok-is_unwritten.ensures c.fault_here_if-key.ensures) c.first_again-again.ensures)
