use Rattle.std.proofs.Common.{◌∷◌, []}
use Rattle.json_form.specs.declared.pointer.Step.TheVariants.{Member}
use Rattle.layouts.specs.declared.rule.Rule.TheVariants.{NamedOnce}
use Rattle.layouts.specs.rule_places.Places.{IsAt}
use Rattle.layouts.proofs.rule_places.Rules.{least_where}
use Rattle.layouts.proofs.rule_places.again.AgainFinderFault.find.Goals as goal

pub returns : goal.returns
returns g c =
    let self = c.args.self.now in
    let item = c.args.item.now in
    least_where (IsAt NamedOnce (Member self.last.now ∷ [])) c.in_ok-found.found c.is_again-is_again.ensures c.in_ok-found.ensures
