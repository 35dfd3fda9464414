use Rattle.std.proofs.Common.{List, ◌∷◌, [], ◌++◌, Contains, refl, sym, subst}
use Rattle.std.proofs.lemmas.Option.{slice_get_read}
use Rattle.member_groups.specs.declared.mapping_asks.asks.Ask.{Ask}
use Rattle.member_groups.specs.mapping_asks.Adding.{Adds}
use Rattle.member_groups.specs.mapping_asks.Asks.{IsAskBy, ask_by}
use Rattle.member_groups.proofs.mapping_asks.Adding.{adds_last, adds_next}
use Rattle.member_groups.proofs.mapping_asks.asks.add_conditions.Goals as goal

pub loop-cond-preserved : goal.loop-cond-preserved
loop-cond-preserved c =
    let n = c.loop-cond.cond-index in
    let x = c.cond-item.result in
    let so_far = c.loop-cond.asks.items in
    let Comes : List Ask → Type 0 = λ asks. Adds (IsAskBy c.args.table x) (Contains so_far) (Contains asks) in
    let Last : Ask → Type 0 = λ ask. Comes (so_far ++ ask ∷ []) in
    adds_next (IsAskBy c.args.table) c.args.conds.now n x (Contains c.args.asks.now.items) (Contains so_far) (Contains c.push.new.self.items)
    (slice_get_read _ _ n _ refl c.loop-cond-test.true c.cond-item.is) c.loop-cond.invariant
    (subst Comes (sym c.in_ok-push.ensures.items) (subst Last (sym c.in_ok-ask_of.ensures) (adds_last so_far (ask_by c.args.table x))))
