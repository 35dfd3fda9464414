use Rattle.std.proofs.Common.{List, length, sym, subst}
use Rattle.std.proofs.lemmas.Result.{IfOk-weaker}
use Rattle.arrow_orders.specs.Orders.{EndWithin}
use Rattle.row_orders.specs.Waiting.{TellWaits}
use Rattle.row_plans.specs.Waits.{AreArrowsBy, AreEnds}
use Rattle.row_plans.specs.declared.waiting.arrows.Arrow.{Arrow}
use Rattle.row_plans.proofs.waiting.Collected.{begin_within, end_within, tell_waits}
use Rattle.row_plans.proofs.waiting.waits_of.Goals as goal

pub ends_by_place-requires : goal.ends_by_place-requires
ends_by_place-requires c =
    let P : List Arrow → Type 0 = λ list. AreArrowsBy c.args.store.now.keys c.args.alterations.now list in
    begin_within c.args.alterations.now c.args.store.now.keys c.deref.result.now (subst P (sym c.deref.ensures.value) c.in_ok-arrows.ensures)

pub returns-clause-tells : goal.returns-clause-tells
returns-clause-tells c =
    let keys = c.args.store.now.keys in
    let alterations = c.args.alterations.now in
    let arrows : List Arrow = c.deref.result.now in
    let P : List Arrow → Type 0 = λ list. AreArrowsBy keys alterations list in
    let are = subst P (sym c.deref.ensures.value) c.in_ok-arrows.ensures in
    IfOk-weaker c.ends_by_place.result (λ ends. AreEnds (length alterations) arrows ends.items) (λ ends. TellWaits keys alterations ends.items)
    (λ ends listed. tell_waits alterations keys arrows are ends.items listed) c.ends_by_place.ensures

pub returns-clause-within : goal.returns-clause-within
returns-clause-within c =
    let keys = c.args.store.now.keys in
    let alterations = c.args.alterations.now in
    let arrows : List Arrow = c.deref.result.now in
    let P : List Arrow → Type 0 = λ list. AreArrowsBy keys alterations list in
    let are = subst P (sym c.deref.ensures.value) c.in_ok-arrows.ensures in
    IfOk-weaker c.ends_by_place.result (λ ends. AreEnds (length alterations) arrows ends.items) (λ ends. EndWithin ends.items)
    (λ ends listed. end_within alterations keys arrows are ends.items listed) c.ends_by_place.ensures
