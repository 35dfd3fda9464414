use Rattle.std.proofs.Common.{◌∷◌, [], codes}
use Rattle.json_form.specs.declared.pointer.Step.TheVariants.{Member}
use Rattle.layouts.specs.declared.rule.Rule.TheVariants.{PickedType}
use Rattle.layouts.specs.rule_places.Places.{IsAt}
use Rattle.layouts.proofs.rule_places.Rules.{least_where}
use Rattle.msl_meaning.proofs.msl_picks.type_names.OfSetFinderRawTypeMappingFault.find.Goals as goal

pub returns : goal.returns
returns c = least_where (IsAt PickedType (Member (codes "TypeName") ∷ [])) c.in_ok-found.found c.has_other_pick-is_other.ensures c.in_ok-found.ensures
