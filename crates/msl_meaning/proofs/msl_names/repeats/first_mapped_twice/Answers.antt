use Rattle.std.proofs.Common.{◌⊎◌, [], codes}
use Rattle.std.proofs.lemmas.Result.{IfOk-weaker}
use Rattle.json_form.specs.declared.pointer.Step.TheVariants.{Member}
use Rattle.layouts.specs.declared.fault.Fault.{Fault}
use Rattle.layouts.specs.rule_places.Places.{InList}
use Rattle.layouts.proofs.rule_places.Rules.{least_joined}
use Rattle.layouts.proofs.rule_places.Seen.{least_behind}
use Rattle.layouts.specs.rule_places.Names.{IsRepeatedIn}
use Rattle.msl_meaning.proofs.msl_names.repeats.first_mapped_twice.Goals as goal

pub returns : goal.returns
returns c =
    let raw = c.args.raw.now in
    let Sets : Fault → Type 0 = IsRepeatedIn (λ set. set.name) [] (codes "EntitySetMapping") (codes "Name") raw.sets in
    let Links : Fault → Type 0 = IsRepeatedIn (λ link. link.name) [] (codes "AssociationSetMapping") (codes "Name") raw.links in
    let Roles : Fault → Type 0 = InList (codes "AssociationSetMapping") (λ i link. IsRepeatedIn (λ end. end.role) [] (codes "EndProperty") (codes "Name") link.ends) raw.links in
    let Inside : Fault → Type 0 = λ fault. Links fault ⊎ Roles fault in
    let least = least_joined Sets Inside c.in_ok-sets.sets c.in_ok-links.links c.earlier.result c.earlier.ensures c.in_ok-sets.ensures c.in_ok-links.ensures in
    IfOk-weaker c.behind_member.result _ _
    (λ found is. least_behind (Member (codes "EntityContainerMapping")) (λ fault. Sets fault ⊎ Inside fault) c.earlier.result found is least)
    c.behind_member.ensures
