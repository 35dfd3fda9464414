use Rattle.std.proofs.Common.{◌∙◌, ◌<◌, Vec, Global, ap, arith, length, sym, map, filter, not}
use Rattle.std.specs.Borrow.{Bor}
use Rattle.std.specs.List.{enumerate_from}
use Rattle.serde_json.specs.Data.{put}
use Rattle.serde_json.specs.View.{members_view}
use Rattle.json_form.specs.Trees.{put_all, array_of}
use Rattle.json_form.proofs.Members.{put_all-kept, put_all-left}
use Rattle.round_trip.specs.Words.{Link}
use Rattle.entity_state.specs.InOrder.{lent, lent_state}
use Rattle.entity_state.specs.StateTree.{assoc_member, is_independent, link_tree}
use Rattle.emc_base.proofs.Loops.{at_enumerated, take-enumerated}
use Rattle.entity_state.proofs.Listed.{list_mapped}
use Rattle.entity_state.proofs.state_tree.put_assocs.Goals as goal

pub loop-i-preserved-then-is_some : goal.loop-i-preserved-then-is_some
loop-i-preserved-then-is_some c =
    c.loop-i.invariant
    ∙ sym (put_all-left (members_view c.args.members.now.entries) (assoc_member (lent_state c.args.sorted.now)) (λ entry. is_independent entry.1) (enumerate_from 0 c.as_slice-assocs.result.now) c.loop-i.i
    (c.loop-i.i, c.index-assocs-i.result) (at_enumerated c.as_slice-assocs.result.now c.loop-i.i c.index-assocs-i.result c.loop-i-test.true c.index-assocs-i.is)
    (ap not (sym c.if-is_some.ensures)))

pub loop-i-preserved : goal.loop-i-preserved
loop-i-preserved c =
    let state = lent_state c.args.sorted.now in
    let lists = c.args.sorted.now.links.items in
    let member = assoc_member state (c.loop-i.i, c.index-assocs-i.result) in
    let within : c.loop-i.i < length lists = omega (arith, c.requires, ap length c.as_slice-assocs.ensures.items, c.loop-i-test.true) in
    let rows = ap lent c.as_slice.ensures.value
    ∙ sym (list_mapped (λ (list : Vec (Bor Link) Global). lent list.items) lists c.loop-i.i c.index.result.now within c.index.ensures) in
    c.in_ok-put.ensures.ok
    ∙ ap (λ d. put c.as_str.result.now d (members_view c.loop-i.members.entries)) (c.in_ok-tree.ensures ∙ ap (λ links. array_of (map (link_tree c.index-assocs-i.result) links)) rows)
    ∙ ap (λ name. put name member.1 (members_view c.loop-i.members.entries)) c.as_str.ensures.text
    ∙ ap (put member.0 member.1) c.loop-i.invariant
    ∙ sym (put_all-kept (members_view c.args.members.now.entries) (assoc_member state) (λ entry. is_independent entry.1) (enumerate_from 0 c.as_slice-assocs.result.now) c.loop-i.i
    (c.loop-i.i, c.index-assocs-i.result) (at_enumerated c.as_slice-assocs.result.now c.loop-i.i c.index-assocs-i.result c.loop-i-test.true c.index-assocs-i.is)
    (ap not (sym c.if-is_some.ensures)))

pub returns : goal.returns
returns c = c.loop-i.invariant
    ∙ ap (λ assocs. put_all (members_view c.args.members.now.entries) (map (assoc_member (lent_state c.args.sorted.now)) (filter (λ entry. is_independent entry.1) assocs)))
    (take-enumerated c.as_slice-assocs.result.now c.loop-i.i c.loop-i-test.false ∙ ap (enumerate_from 0) c.as_slice-assocs.ensures.items)
