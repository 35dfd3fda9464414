use Rattle.std.proofs.Common.{[], codes}
use Rattle.layouts.specs.declared.fault.Fault.{Fault}
use Rattle.layouts.specs.rule_places.Names.{IsRepeatedIn}
use Rattle.layouts.specs.rule_places.Places.{InList}
use Rattle.layouts.proofs.rule_places.Rules.{least_joined}
use Rattle.msl_meaning.proofs.msl_names.repeats.first_in_links.Goals as goal

pub returns : goal.returns
returns c =
    let raw = c.args.raw.now in
    let Links : Fault → Type 0 = IsRepeatedIn (λ link. link.name) [] (codes "AssociationSetMapping") (codes "Name") raw.links in
    let Roles : Fault → Type 0 = InList (codes "AssociationSetMapping") (λ i link. IsRepeatedIn (λ end. end.role) [] (codes "EndProperty") (codes "Name") link.ends) raw.links in
    least_joined Links Roles c.in_ok-links.links c.in_ok-roles.roles c.earlier.result c.earlier.ensures c.in_ok-links.ensures c.in_ok-roles.ensures
