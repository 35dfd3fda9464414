use Rattle.std.proofs.Common.{List, [], ap, sym, ◌∙◌}
use Rattle.layouts.proofs.rule_places.LeastFound.{none_of}
use Rattle.round_trip.specs.Words.{LinkFragment}
use Rattle.schema_names.specs.SchemaNames.{association_set_named, table_named}
use Rattle.msl_rules.specs.OwnerRules.{PlacedWriter, placed, writers_at_link, writers_of_link}
use Rattle.msl_rules.specs.Sites.{LinkSite}
use Rattle.msl_fragments.proofs.msl_owners.Adding.{adds_none, adds_same}
use Rattle.msl_fragments.proofs.msl_owners.Found.{link_found, link_lacks}
use Rattle.msl_fragments.proofs.msl_owners.Writers.{link_site_at}
use Rattle.msl_fragments.proofs.msl_owners.links.add_link.Goals as goal

pub returns-in_default-table_named : goal.returns-in_default-table_named
returns-in_default-table_named c =
    let model = c.args.names.now.model.now in
    let store = c.args.names.now.store.now in
    let all = c.args.all.now in
    let site : LinkSite = link_site_at model store (c.args.place, c.args.link.now) in
    let set = sym (c.association_set_named.ensures ∙ ap (association_set_named model) c.as_str.ensures.text) ∙ c.in-Some.is in
    let table = sym (c.table_named.ensures ∙ ap (table_named store) c.as_str-2.ensures.text) ∙ none_of c.table_named.result c.in_default-table_named.not-Some in
    adds_same all all [] (writers_at_link model store site)
    (sym (link_lacks model store site c.in-Some.set c.in-Some-get.assoc.now set (sym c.in-Some-get.ensures.item) table)) (adds_none all)

pub returns : goal.returns
returns c =
    let model = c.args.names.now.model.now in
    let store = c.args.names.now.store.now in
    let assoc = c.in-Some-get.assoc.now in
    let site : LinkSite = link_site_at model store (c.args.place, c.args.link.now) in
    let set = sym (c.association_set_named.ensures ∙ ap (association_set_named model) c.as_str.ensures.text) ∙ c.in-Some.is in
    let table = sym (c.table_named.ensures ∙ ap (table_named store) c.as_str-2.ensures.text) ∙ c.in-Some-table_named.is in
    let At : LinkFragment → List PlacedWriter = λ fragment. placed model store site.place (writers_of_link model store fragment assoc) in
    adds_same c.args.all.now c.add.new.all (At c.in_ok-made.made) (writers_at_link model store site)
    (ap At c.in_ok-made.ensures ∙ sym (link_found model store site c.in-Some.set assoc set (sym c.in-Some-get.ensures.item) c.in-Some-table_named.table table)) c.in_ok-add.ensures
