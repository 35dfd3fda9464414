use Rattle.std.proofs.Common.{◌≡◌, ℕ, List, length, sym, subst, ap, ◌∙◌}
use Rattle.std.proofs.lemmas.Result.{IfOk-weaker}
use Rattle.arrow_orders.specs.Orders.{EndWithin}
use Rattle.row_orders.specs.declared.alteration.Alteration.{Alteration}
use Rattle.row_orders.specs.Alterations.{AreAlterations}
use Rattle.row_orders.specs.Waiting.{TellWaits}
use Rattle.row_plans.proofs.listing.Planned.{places_below, tells_plan}
use Rattle.row_plans.proofs.planning.plan_rows.Goals as goal

pub order_of-requires : goal.order_of-requires
order_of-requires c = subst EndWithin (sym c.as_slice-2.ensures.value) c.in_ok-ends.ensures.within

pub plan_of-requires : goal.plan_of-requires
plan_of-requires c =
    let ends : List (List ℕ) = c.as_slice-2.result.now in
    let size : length ends ≡ length c.as_slice-3.result.now =
    ap length c.as_slice-2.ensures.value ∙ c.in_ok-ends.ensures.tells.size ∙ ap length (c.as_slice.ensures.value ∙ sym c.as_slice-3.ensures.value) in
    places_below ends (length c.as_slice-3.result.now) c.in_ok-order.order size c.in_ok-order.ensures

pub returns : goal.returns
returns c =
    let store = c.args.store.now in
    let ends : List (List ℕ) = c.as_slice-2.result.now in
    let alterations : List Alteration = c.as_slice-3.result.now in
    let are : AreAlterations store c.args.old.now c.args.new.now alterations =
    subst (AreAlterations store c.args.old.now c.args.new.now) (sym c.as_slice-3.ensures.value) c.in_ok-alterations.ensures.all in
    let same : c.as_slice.result.now ≡ alterations = c.as_slice.ensures.value ∙ sym c.as_slice-3.ensures.value in
    let P : List Alteration × List (List ℕ) → Type 0 = λ p. TellWaits store.keys p.0 p.1 in
    let tell : TellWaits store.keys alterations ends = subst P (λ k. (same k, sym c.as_slice-2.ensures.value k)) c.in_ok-ends.ensures.tells in
    record {
      plan = IfOk-weaker c.plan_of.result _ _ (λ plan is. tells_plan store c.args.old.now c.args.new.now alterations are ends tell c.in_ok-order.order plan c.in_ok-order.ensures is) c.plan_of.ensures;
    }
