use Rattle.std.proofs.Common.{◌≡◌, AllPairs, subst}
use Rattle.std.specs.Borrow.{Bor}
use Rattle.std.specs.declared.cmp.Ordering.TheVariants.{Less}
use Rattle.entity_state.proofs.breach_order.Rising.{apart_as_sorted}
use Rattle.entity_state.proofs.breach_order.in_order.are_apart.Goals as goal

pub returns : goal.returns
returns g c told =
    let Rises : Bor g.row.K.Denot → Bor g.row.K.Denot → Type 0 = λ one later. g.K.Ord.cmp one.now later.now ≡ Less in
    apart_as_sorted g.K.Ord.cmp g.met.K.Ord.total c.args.keys.now c.in_ok-sorted.sorted.items c.sort.new.self.items c.in_ok-sorted.ensures c.sort.ensures.stable
    (subst (AllPairs Rises) c.as_slice.ensures.value (c.rise.ensures told))
