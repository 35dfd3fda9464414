use Rattle.std.proofs.Common.{◌∙◌, ◌<◌, Vec, Global, ap, arith, length, map, sym}
use Rattle.std.specs.Borrow.{Bor}
use Rattle.std.specs.List.{enumerate_from}
use Rattle.serde_json.specs.Data.{object, no_members, put}
use Rattle.serde_json.specs.View.{members_view}
use Rattle.json_form.specs.Trees.{array_of, put_all}
use Rattle.json_form.proofs.Objects.{put_all-take}
use Rattle.round_trip.specs.Words.{Row}
use Rattle.table_files.specs.TablesTree.{row_tree, table_member}
use Rattle.emc_base.proofs.Loops.{at_enumerated, take-enumerated}
use Rattle.table_files.proofs.Sorted.{rows_mapped}
use Rattle.table_files.proofs.tables_tree.tables_tree.Goals as goal

pub loop-i-preserved : goal.loop-i-preserved
loop-i-preserved c =
    let lent = λ (rows : Vec (Bor Row) Global). map (λ (row : Bor Row). row.now) rows.items in
    let tables = map lent c.args.tables.now in
    let table = c.index-declared-i.result in
    let member = table_member tables (c.loop-i.i, table) in
    let within : c.loop-i.i < length c.args.tables.now = omega (arith, c.requires, ap length c.as_slice-declared.ensures.items, c.loop-i-test.true) in
    let rows = ap (map (λ (row : Bor Row). row.now)) c.as_slice.ensures.value
    ∙ sym (rows_mapped lent c.args.tables.now (record { index = c.loop-i.i }) c.index-tables-i.result within c.index-tables-i.is) in
    c.in_ok-put.ensures.ok
    ∙ ap (λ d. put c.as_str.result.now d (members_view c.loop-i.members.entries)) (c.in_ok-tree.ensures ∙ ap (λ list. array_of (map (row_tree table) list)) rows)
    ∙ ap (λ name. put name member.1 (members_view c.loop-i.members.entries)) c.as_str.ensures.text
    ∙ ap (put member.0 member.1) c.loop-i.invariant
    ∙ sym (put_all-take no_members (table_member tables) (enumerate_from 0 c.as_slice-declared.result.now) c.loop-i.i
    (c.loop-i.i, table) (at_enumerated c.as_slice-declared.result.now c.loop-i.i table c.loop-i-test.true c.index-declared-i.is))

pub returns : goal.returns
returns c = c.object_tree.ensures ∙ ap object (c.loop-i.invariant
    ∙ ap (λ declared. put_all no_members (map (table_member (map (λ (rows : Vec (Bor Row) Global). map (λ (row : Bor Row). row.now) rows.items) c.args.tables.now)) declared))
    (take-enumerated c.as_slice-declared.result.now c.loop-i.i c.loop-i-test.false ∙ ap (enumerate_from 0) c.as_slice-declared.ensures.items))
