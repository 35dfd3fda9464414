use Rattle.std.proofs.Common.{◌∙◌, ap, sym, map}
use Rattle.std.specs.List.{enumerate_from}
use Rattle.serde_json.specs.Data.{object, no_members, put}
use Rattle.serde_json.specs.View.{members_view}
use Rattle.json_form.specs.Trees.{put_all}
use Rattle.json_form.proofs.Objects.{put_all-take}
use Rattle.table_files.specs.TablesTree.{cell_member}
use Rattle.emc_base.proofs.Loops.{at_enumerated, take-enumerated}
use Rattle.table_files.proofs.tables_tree.row_tree.Goals as goal

pub loop-i-preserved : goal.loop-i-preserved
loop-i-preserved c =
    let member = cell_member c.args.row.now (c.loop-i.i, c.index-columns-i.result) in
    c.in_ok-put.ensures.ok
    ∙ ap (λ d. put c.as_str.result.now d (members_view c.loop-i.members.entries)) c.in_ok-tree.ensures
    ∙ ap (λ name. put name member.1 (members_view c.loop-i.members.entries)) c.as_str.ensures.text
    ∙ ap (put member.0 member.1) c.loop-i.invariant
    ∙ sym (put_all-take no_members (cell_member c.args.row.now) (enumerate_from 0 c.as_slice-columns.result.now) c.loop-i.i
    (c.loop-i.i, c.index-columns-i.result) (at_enumerated c.as_slice-columns.result.now c.loop-i.i c.index-columns-i.result c.loop-i-test.true c.index-columns-i.is))

pub returns : goal.returns
returns c = c.object_tree.ensures ∙ ap object (c.loop-i.invariant
    ∙ ap (λ columns. put_all no_members (map (cell_member c.args.row.now) columns))
    (take-enumerated c.as_slice-columns.result.now c.loop-i.i c.loop-i-test.false ∙ ap (enumerate_from 0) c.as_slice-columns.ensures.items))
