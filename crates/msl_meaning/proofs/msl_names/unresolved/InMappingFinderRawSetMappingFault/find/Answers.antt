use Rattle.std.proofs.Common.{codes, ap, ◌∙◌}
use Rattle.layouts.specs.declared.fault.Fault.{Fault}
use Rattle.layouts.specs.rule_places.Places.{InList}
use Rattle.layouts.proofs.rule_places.Rules.{least_joined}
use Rattle.layouts.specs.rule_places.Names.{NamesNothing}
use Rattle.schema_names.specs.SchemaNames.{set_named}
use Rattle.msl_rules.specs.NameRules.{IsUnresolvedTypes}
use Rattle.msl_rules.proofs.Named.{names_nothing}
use Rattle.msl_meaning.proofs.msl_names.unresolved.InMappingFinderRawSetMappingFault.find.Goals as goal

pub returns : goal.returns
returns c =
    let names = c.args.self.now.names.now in
    let item = c.args.item.now in
    let set = set_named names.model.now in
    let Set : Fault → Type 0 = NamesNothing (set item.name) (codes "Name") in
    let Types : Fault → Type 0 = InList (codes "EntityTypeMapping") (IsUnresolvedTypes names.model.now names.store.now) item.types in
    least_joined Set Types c.in_ok-set.set c.in_ok-types.types c.earlier.result c.earlier.ensures
    (names_nothing c.set_named-named.result (set item.name) (codes "Name") c.in_ok-set.set (c.set_named-named.ensures ∙ ap set c.as_str.ensures.text) c.in_ok-set.ensures)
    c.in_ok-types.ensures
