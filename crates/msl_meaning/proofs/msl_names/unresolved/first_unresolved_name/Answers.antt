use Rattle.std.proofs.Common.{◌⊎◌, codes}
use Rattle.json_form.specs.declared.pointer.Step.TheVariants.{Member}
use Rattle.layouts.specs.declared.fault.Fault.{Fault}
use Rattle.layouts.specs.rule_places.Places.{InList}
use Rattle.layouts.proofs.rule_places.Rules.{least_joined}
use Rattle.layouts.proofs.rule_places.Seen.{least_behind}
use Rattle.msl_rules.specs.NameRules.{IsUnresolvedLink, IsUnresolvedSet}
use Rattle.msl_meaning.proofs.msl_names.unresolved.first_unresolved_name.Goals as goal

pub returns : goal.returns
returns c =
    let names = c.args.names.now in
    let raw = c.args.raw.now in
    let Sets : Fault → Type 0 = InList (codes "EntitySetMapping") (IsUnresolvedSet names.model.now names.store.now) raw.sets in
    let Links : Fault → Type 0 = InList (codes "AssociationSetMapping") (IsUnresolvedLink names.model.now names.store.now) raw.links in
    least_behind (Member (codes "EntityContainerMapping")) (λ fault. Sets fault ⊎ Links fault) c.earlier.result c.in_ok-found.found c.in_ok-found.ensures
    (least_joined Sets Links c.in_ok-sets.sets c.in_ok-links.links c.earlier.result c.earlier.ensures c.in_ok-sets.ensures c.in_ok-links.ensures)
