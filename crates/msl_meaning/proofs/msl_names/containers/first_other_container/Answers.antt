use Rattle.std.proofs.Common.{◌≢◌, ◌⊎◌, ◌∷◌, [], codes}
use Rattle.json_form.specs.declared.pointer.Step.TheVariants.{Member}
use Rattle.layouts.specs.declared.fault.Fault.{Fault}
use Rattle.layouts.specs.declared.rule.Rule.TheVariants.{ContainerName}
use Rattle.layouts.specs.rule_places.Places.{IsAt}
use Rattle.layouts.proofs.rule_places.Rules.{least_joined}
use Rattle.layouts.proofs.rule_places.Seen.{least_behind}
use Rattle.msl_meaning.proofs.msl_names.containers.first_other_container.Goals as goal

pub returns : goal.returns
returns c =
    let raw = c.args.raw.now in
    let Store : Fault → Type 0 = λ fault. (raw.store_container ≢ c.args.store.now.container) × IsAt ContainerName (Member (codes "StorageEntityContainer") ∷ []) fault in
    let Model : Fault → Type 0 = λ fault. (raw.model_container ≢ c.args.model.now.container) × IsAt ContainerName (Member (codes "CdmEntityContainer") ∷ []) fault in
    least_behind (Member (codes "EntityContainerMapping")) (λ fault. Store fault ⊎ Model fault) c.earlier.result c.in_ok-found.found c.in_ok-found.ensures
    (least_joined Store Model c.in_ok-of_store.of_store c.in_ok-of_model.of_model c.earlier.result c.earlier.ensures c.in_ok-of_store.ensures c.in_ok-of_model.ensures)
