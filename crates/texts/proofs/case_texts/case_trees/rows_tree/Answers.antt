use Rattle.std.proofs.Common.{ap, length, map, refl, sym, zip, ◌∙◌}
use Rattle.std.proofs.lemmas.Option.{slice_get_read}
use Rattle.serde_json.specs.Data.{no_members, put}
use Rattle.serde_json.specs.View.{members_view}
use Rattle.json_form.specs.Trees.{object_of}
use Rattle.json_form.proofs.Objects.{put_all-take}
use Rattle.texts.specs.case_texts.CaseTree.{column_member, row_member}
use Rattle.texts.specs.case_texts.Names.{columns_of}
use Rattle.texts.proofs.case_texts.case_trees.rows_tree.Goals as goal

pub loop-row-preserved : goal.loop-row-preserved
loop-row-preserved c =
    let rows = c.args.rows.now in
    let store = c.args.store.now in
    let model = c.args.model.now in
    let i = c.loop-row.row-index in
    let row = c.row-item.result in
    let f = row_member model store in
    let members = members_view c.loop-row.members.entries in
    let tree = c.in_ok-tree.ensures
    ∙ ap (λ columns. object_of (map (column_member model) (zip columns c.as_slice.result.now))) c.columns_of-columns.ensures
    ∙ ap (λ cells. object_of (map (column_member model) (zip (columns_of store row.table) cells))) c.as_slice.ensures.items in
    c.in_ok-put.ensures.ok
    ∙ ap (λ d. put c.table_name.result.now d members) tree
    ∙ ap (λ name. put name (f row).1 members) c.table_name.ensures
    ∙ ap (put (f row).0 (f row).1) c.loop-row.invariant
    ∙ sym (put_all-take no_members f rows i row (slice_get_read rows (length rows) i row refl c.loop-row-test.true c.row-item.is))
