use Rattle.std.proofs.Common.{◌∙◌, ◌<◌, Vec, Global, ap, arith, length, sym, map, All, subst}
use Rattle.std.specs.Borrow.{Bor}
use Rattle.std.specs.List.{enumerate_from}
use Rattle.std.proofs.lemmas.List.{length-map}
use Rattle.serde_json.specs.Data.{put}
use Rattle.serde_json.specs.View.{members_view}
use Rattle.json_form.specs.Trees.{put_all, array_of}
use Rattle.json_form.proofs.Objects.{put_all-take}
use Rattle.round_trip.specs.Words.{Entity, IsEntity}
use Rattle.entity_state.specs.InOrder.{lent, lent_state}
use Rattle.entity_state.specs.StateTree.{entity_tree, set_member}
use Rattle.emc_base.proofs.Loops.{at_enumerated, take-enumerated}
use Rattle.entity_state.proofs.Listed.{list_mapped}
use Rattle.entity_state.proofs.state_tree.put_sets.Goals as goal

pub entities_tree-requires : goal.entities_tree-requires
entities_tree-requires c =
    let lists = c.args.sorted.now.entities.items in
    let long = length-map lists (λ (list : Vec (Bor Entity) Global). lent list.items) in
    let within : c.loop-i.i < length lists = omega (arith, long, c.requires.sets, ap length c.as_slice-sets.ensures.items, c.loop-i-test.true) in
    let rows = ap lent c.as_slice.ensures.value
    ∙ sym (list_mapped (λ (list : Vec (Bor Entity) Global). lent list.items) lists c.loop-i.i c.index.result.now within c.index.ensures) in
    subst (All (IsEntity c.args.model.now)) (sym rows) (c.requires.entities (record { index = c.loop-i.i }))

pub loop-i-preserved : goal.loop-i-preserved
loop-i-preserved c =
    let state = lent_state c.args.sorted.now in
    let lists = c.args.sorted.now.entities.items in
    let member = set_member c.args.model.now state (c.loop-i.i, c.index-sets-i.result) in
    let long = length-map lists (λ (list : Vec (Bor Entity) Global). lent list.items) in
    let within : c.loop-i.i < length lists = omega (arith, long, c.requires.sets, ap length c.as_slice-sets.ensures.items, c.loop-i-test.true) in
    let rows = ap lent c.as_slice.ensures.value
    ∙ sym (list_mapped (λ (list : Vec (Bor Entity) Global). lent list.items) lists c.loop-i.i c.index.result.now within c.index.ensures) in
    c.in_ok-put.ensures.ok
    ∙ ap (λ d. put c.as_str.result.now d (members_view c.loop-i.members.entries)) (c.in_ok-tree.ensures ∙ ap (λ entities. array_of (map (entity_tree c.args.model.now) entities)) rows)
    ∙ ap (λ name. put name member.1 (members_view c.loop-i.members.entries)) c.as_str.ensures.text
    ∙ ap (put member.0 member.1) c.loop-i.invariant
    ∙ sym (put_all-take (members_view c.args.members.now.entries) (set_member c.args.model.now state) (enumerate_from 0 c.as_slice-sets.result.now) c.loop-i.i
    (c.loop-i.i, c.index-sets-i.result) (at_enumerated c.as_slice-sets.result.now c.loop-i.i c.index-sets-i.result c.loop-i-test.true c.index-sets-i.is))

pub returns : goal.returns
returns c = c.loop-i.invariant
    ∙ ap (λ sets. put_all (members_view c.args.members.now.entries) (map (set_member c.args.model.now (lent_state c.args.sorted.now)) sets))
    (take-enumerated c.as_slice-sets.result.now c.loop-i.i c.loop-i-test.false ∙ ap (enumerate_from 0) c.as_slice-sets.ensures.items)
