use Rattle.std.proofs.Common.{◌∷◌, [], codes}
use Rattle.json_form.specs.declared.pointer.Step.TheVariants.{Member}
use Rattle.layouts.specs.declared.fault.Fault.{Fault}
use Rattle.layouts.specs.declared.rule.Rule.TheVariants.{Resolves}
use Rattle.layouts.specs.rule_places.Places.{InList, IsAt}
use Rattle.layouts.proofs.rule_places.Rules.{least_joined, least_where}
use Rattle.msl_rules.specs.NameRules.{HasUnresolvedPick, IsUnresolvedFragment}
use Rattle.msl_meaning.proofs.msl_names.unresolved.InMappingFinderRawTypeMappingFault.find.Goals as goal

pub returns : goal.returns
returns c =
    let names = c.args.self.now.names.now in
    let types = c.args.item.now in
    let Picks : Fault → Type 0 = λ fault. HasUnresolvedPick names.model.now names.store.now types × IsAt Resolves (Member (codes "TypeName") ∷ []) fault in
    let Fragments : Fault → Type 0 = InList (codes "MappingFragment") (IsUnresolvedFragment names.model.now names.store.now) types.fragments in
    least_joined Picks Fragments c.in_ok-picks.picks c.in_ok-fragments.fragments c.earlier.result c.earlier.ensures
    (least_where (IsAt Resolves (Member (codes "TypeName") ∷ [])) c.in_ok-picks.picks c.has_unresolved_pick-is_lacking.ensures c.in_ok-picks.ensures)
    c.in_ok-fragments.ensures
