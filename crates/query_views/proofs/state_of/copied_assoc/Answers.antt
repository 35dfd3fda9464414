use Rattle.std.proofs.Common.{List, map, refl, ap, ◌∙◌}
use Rattle.std.specs.Borrow.{Bor}
use Rattle.std.proofs.lemmas.List.{take_all}
use Rattle.std.proofs.lemmas.Option.{slice_get_read}
use Rattle.emc_base.proofs.Turns.{mapped_more}
use Rattle.keyed_rows.specs.declared.row_groups.groups.KeyGroup.{KeyGroup}
use Rattle.keyed_rows.specs.row_groups.Shown.{shown_cells}
use Rattle.round_trip.specs.Words.{Link, Value}
use Rattle.query_views.specs.Lent.{link_of, shown_values}
use Rattle.query_views.proofs.state_of.copied_assoc.Goals as goal

pub loop-both-preserved : goal.loop-both-preserved
loop-both-preserved c =
    let i = c.loop-both.both-index in
    let n = c.args.lent.now.first_len in
    let made : KeyGroup Unit → Link = λ group. link_of n (shown_cells group.key) in
    c.in_ok-push.ensures.ok
    ∙ mapped_more made c.as_slice-both-items.result.now i c.both-item.result c.loop-both.links c.in_ok-copied_link.field-0 c.loop-both.invariant
    (slice_get_read _ _ i _ refl c.loop-both-test.true c.both-item.is)
    (c.in_ok-copied_link.ensures ∙ ap (λ (values : List (Bor Value)). link_of n (shown_values values)) c.as_slice.ensures.value)

pub returns : goal.returns
returns c =
    let n = c.args.lent.now.first_len in
    let made : KeyGroup Unit → Link = λ group. link_of n (shown_cells group.key) in
    c.loop-both.invariant ∙ ap (map made) (take_all c.loop-both.both-index c.as_slice-both-items.result.now c.loop-both-test.false ∙ c.as_slice-both-items.ensures.value)
