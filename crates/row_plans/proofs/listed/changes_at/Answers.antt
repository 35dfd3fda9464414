use Rattle.std.proofs.Common.{◌≡◌, ◌+◌, ◌∷◌, ◌++◌, [], ℕ, List, get_or, take, refl, sym, ap, subst, ◌∙◌}
use Rattle.std.proofs.lemmas.Option.{slice_get-get_or, slice_get_read}
use Rattle.emc_base.specs.Lists.{At}
use Rattle.emc_base.proofs.Loops.{take_item}
use Rattle.row_changes.specs.declared.change.RowChange.{RowChange}
use Rattle.row_orders.specs.declared.alteration.Alteration.{Alteration}
use Rattle.row_orders.specs.Alterations.{AreChangesAt, change_of}
use Rattle.row_plans.proofs.listing.Listed.{one_listed}
use Rattle.row_plans.proofs.listed.changes_at.Goals as goal

pub loop-place-preserved : goal.loop-place-preserved
loop-place-preserved c =
    let store = c.args.store.now in
    let alterations : List Alteration = c.args.alterations.now in
    let places : List ℕ = c.args.places.now in
    let i : ℕ = c.loop-place.place-index in
    let place : ℕ = get_or places i 0 in
    let one : Alteration = c.index-alterations-place.result in
    let here : At alterations place one = slice_get_read alterations _ place one refl (c.requires i 0 c.loop-place-test.true) c.index-alterations-place.is in
    let taken : take (i + 1) places ≡ take i places ++ place ∷ [] = take_item places i place (slice_get-get_or places i 0 c.loop-place-test.true) in
    let made : c.push.new.self ≡ c.loop-place.changes ++ change_of store one ∷ [] =
    c.in_ok-push.ensures.ok ∙ ap (λ (change : RowChange). c.loop-place.changes ++ change ∷ []) c.in_ok-change_of.ensures in
    let P : List ℕ × List RowChange → Type 0 = λ p. AreChangesAt store alterations p.0 p.1 in
    subst P (λ k. (sym taken k, sym made k)) (one_listed store alterations (take i places) c.loop-place.changes place one c.loop-place.invariant here)
