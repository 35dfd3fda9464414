use Rattle.std.proofs.Common.{map, refl, ap, ◌∙◌}
use Rattle.std.proofs.lemmas.List.{take_all}
use Rattle.std.proofs.lemmas.Option.{slice_get_read}
use Rattle.emc_base.proofs.Turns.{mapped_more}
use Rattle.query_views.specs.Lent.{shown_links}
use Rattle.query_views.proofs.state_of.copied_links.Goals as goal

pub loop-of_assoc-preserved : goal.loop-of_assoc-preserved
loop-of_assoc-preserved c =
    let i = c.loop-of_assoc.of_assoc-index in
    c.in_ok-push.ensures.items
    ∙ mapped_more shown_links c.args.lent.now i c.of_assoc-item.result c.loop-of_assoc.lists.items c.in_ok-copied_assoc.field-0 c.loop-of_assoc.invariant
    (slice_get_read _ _ i _ refl c.loop-of_assoc-test.true c.of_assoc-item.is) c.in_ok-copied_assoc.ensures

pub returns : goal.returns
returns c = c.loop-of_assoc.invariant ∙ ap (map shown_links) (take_all c.loop-of_assoc.of_assoc-index c.args.lent.now c.loop-of_assoc-test.false)
