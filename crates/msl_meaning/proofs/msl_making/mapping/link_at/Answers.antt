use Rattle.std.proofs.Common.{Some, sym, ap, ◌∙◌}
use Rattle.schema_names.specs.SchemaNames.{association_set_named, table_named}
use Rattle.msl_rules.specs.MappingMeaning.{link_with}
use Rattle.msl_meaning.proofs.msl_making.Walked.{link_found}
use Rattle.msl_meaning.proofs.msl_making.mapping.link_at.Goals as goal

pub returns : goal.returns
returns c =
    let names = c.args.names.now in
    ap Some (c.in_ok-made.ensures ∙ ap (λ place. link_with names.model.now names.store.now place c.args.link.now c.in-Some.set c.in-Some-get.assoc.now c.in-Some-table_named.table) c.in_ok-place.ensures)
    ∙ sym (link_found names.model.now names.store.now c.args.place c.args.link.now c.in-Some.set c.in-Some-get.assoc.now c.in-Some-table_named.table
    (ap (association_set_named names.model.now) (sym c.as_str.ensures.text) ∙ sym c.in-Some.ensures)
    (sym c.in-Some-get.ensures.item)
    (ap (table_named names.store.now) (sym c.as_str-2.ensures.text) ∙ sym c.in-Some-table_named.ensures))
