use Rattle.std.proofs.Common.{◌∷◌, [], codes}
use Rattle.json_form.specs.declared.pointer.Step.TheVariants.{Member}
use Rattle.layouts.specs.declared.rule.Rule.TheVariants.{MappedAssociation}
use Rattle.layouts.specs.rule_places.Places.{IsAt}
use Rattle.layouts.proofs.rule_places.Rules.{least_where}
use Rattle.msl_meaning.proofs.msl_picks.link.first_other_association.Goals as goal

pub returns : goal.returns
returns c = λ i. least_where (IsAt MappedAssociation (Member (codes "TypeName") ∷ [])) c.in_ok-found.found c.is_of_other-is_other.ensures c.in_ok-found.ensures
