use Rattle.std.proofs.Common.{MatchOption, codes}
use Rattle.emc_base.specs.Lists.{At}
use Rattle.layouts.specs.declared.fault.Fault.{Fault}
use Rattle.layouts.specs.rule_places.Places.{InList}
use Rattle.layouts.proofs.rule_places.Rules.{least_joined}
use Rattle.round_trip.specs.Words.{EntitySet}
use Rattle.schema_names.specs.SchemaNames.{set_named}
use Rattle.msl_rules.specs.NameRules.{IsPickedFault, IsSharedTypesFault}
use Rattle.msl_meaning.proofs.msl_picks.type_names.InMappingFinderRawSetMappingFault.find.Goals as goal

pub returns : goal.returns
returns c =
    let model = c.args.self.now.names.now.model.now in
    let mapping = c.args.item.now in
    let Picked : Fault → Type 0 = λ fault. MatchOption (set_named model mapping.name) ⊥
    (λ s. (entry : EntitySet) × At model.sets s entry × InList (codes "EntityTypeMapping") (IsPickedFault model entry) mapping.types fault) in
    let Shared : Fault → Type 0 = InList (codes "EntityTypeMapping") (IsSharedTypesFault model) mapping.types in
    least_joined Picked Shared c.in_ok-picked.picked c.in_ok-shared.shared c.earlier.result c.earlier.ensures c.in_ok-picked.ensures c.in_ok-shared.ensures
