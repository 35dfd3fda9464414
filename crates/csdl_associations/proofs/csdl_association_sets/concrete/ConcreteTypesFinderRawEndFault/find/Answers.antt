use Rattle.std.proofs.Common.{◌∷◌, [], codes}
use Rattle.json_form.specs.declared.pointer.Step.TheVariants.{Member}
use Rattle.layouts.specs.declared.rule.Rule.TheVariants.{ConcreteType}
use Rattle.layouts.specs.rule_places.Places.{IsAt}
use Rattle.layouts.proofs.rule_places.Rules.{least_where}
use Rattle.csdl_associations.proofs.csdl_association_sets.concrete.ConcreteTypesFinderRawEndFault.find.Goals as goal

pub returns : goal.returns
returns c = least_where (IsAt ConcreteType (Member (codes "Type") ∷ [])) c.in_ok-found.found c.is_lacking.ensures c.in_ok-found.ensures
