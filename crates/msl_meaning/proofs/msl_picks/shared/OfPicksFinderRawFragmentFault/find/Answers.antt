use Rattle.std.proofs.Common.{MatchOption, codes}
use Rattle.layouts.specs.declared.fault.Fault.{Fault}
use Rattle.layouts.specs.rule_places.Places.{InList}
use Rattle.layouts.proofs.rule_places.Rules.{least_joined}
use Rattle.msl_rules.specs.NameRules.{IsUnsharedName}
use Rattle.msl_meaning.proofs.msl_picks.shared.OfPicksFinderRawFragmentFault.find.Goals as goal

pub returns : goal.returns
returns c =
    let self = c.args.self.now in
    let model = self.names.now.model.now in
    let fragment = c.args.item.now in
    let Pairs : Fault → Type 0 = InList (codes "ScalarProperty") (λ n pair. IsUnsharedName model self.picks.now pair.prop) fragment.pairs in
    let Conds : Fault → Type 0 = InList (codes "Condition") (λ n cond inside. MatchOption cond.prop ⊥ (λ name. IsUnsharedName model self.picks.now name inside)) fragment.conds in
    least_joined Pairs Conds c.in_ok-pairs.pairs c.in_ok-conds.conds c.earlier.result c.earlier.ensures c.in_ok-pairs.ensures c.in_ok-conds.ensures
