use Rattle.std.proofs.Common.{Contains, refl}
use Rattle.std.proofs.lemmas.Option.{slice_get_read}
use Rattle.member_groups.specs.mapping_asks.Asks.{AsksByLink}
use Rattle.member_groups.proofs.mapping_asks.Adding.{adds_next}
use Rattle.member_groups.proofs.mapping_asks.asks.add_links.Goals as goal

pub loop-fragment-preserved : goal.loop-fragment-preserved
loop-fragment-preserved c =
    let n = c.loop-fragment.fragment-index in
    adds_next AsksByLink c.args.fragments.now n c.fragment-item.result (Contains c.args.asks.now.items) (Contains c.loop-fragment.asks.items) (Contains c.add_link.new.asks.items)
    (slice_get_read _ _ n _ refl c.loop-fragment-test.true c.fragment-item.is) c.loop-fragment.invariant c.in_ok-add_link.ensures
