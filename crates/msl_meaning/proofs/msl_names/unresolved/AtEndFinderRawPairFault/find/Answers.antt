use Rattle.std.proofs.Common.{codes, ap, ◌∙◌}
use Rattle.schema_names.specs.SchemaNames.{prop_named}
use Rattle.msl_rules.proofs.Named.{names_nothing}
use Rattle.msl_meaning.proofs.msl_names.unresolved.AtEndFinderRawPairFault.find.Goals as goal

pub returns : goal.returns
returns c =
    let self = c.args.self.now in
    let prop = prop_named self.names.now.model.now self.end.now.ty.index in
    names_nothing c.prop_named-prop.result (prop c.args.item.now.prop) (codes "Name") c.in_ok-found.found (c.prop_named-prop.ensures ∙ ap prop c.as_str.ensures.text)
    c.in_ok-found.ensures
