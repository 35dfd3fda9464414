use Rattle.std.proofs.Common.{arith, ◌∙◌, map, ap, lit<, sym}
use Rattle.std.proofs.lemmas.Grind.{common_steps}
use Rattle.std.proofs.lemmas.Iterator.Consumers.{YieldsList-at, YieldsList-end}
use Rattle.std.proofs.lemmas.Iterator.Splits.{YieldsList-from_str_split}
use Rattle.std.proofs.lemmas.Simd.{map-map}
use Rattle.msl_rules.specs.msl_lists.Picks.{pick_of}
use Rattle.msl_rules.proofs.msl_lists.picks.read_picks.Goals as goal

pub returns : goal.returns
returns c =
    let split = c.split-item-items.ensures in
    let all = YieldsList-end
    (YieldsList-at c.into_iter-item-iterator.ensures.into_iter_gives (YieldsList-from_str_split 59 c.args.text.now (lit< tt) split.text split.has_more split.pattern))
    c.loop-item.yielded _ c.loop-item.yielded_by _ _ c.in-None.is c.next.ensures.steps in
    c.loop-item.invariant ∙ sym (map-map pick_of (λ item. item.now) c.loop-item.yielded) ∙ ap (map pick_of) all.0

pub loop-item-preserved : goal.loop-item-preserved
loop-item-preserved c = grind (arith, common_steps)
