use Rattle.std.proofs.Common.{◌≡◌, [], ◌∷◌, ◌++◌, not, true, refl, sym, ap, subst, ◌∙◌}
use Rattle.std.specs.BTreeSet.{Updates, contains}
use Rattle.std.proofs.lemmas.Bool.{not-true}
use Rattle.supported_states.specs.Spots.{holds, spot_cmp, spot_of}
use Rattle.supported_states.specs.declared.small_parts.small.Found.{Found}
use Rattle.supported_states.specs.declared.spots.Spot.{Spot}
use Rattle.supported_states.proofs.Gathering.{not-no}
use Rattle.supported_states.proofs.small_parts.Walking.{finds_new, finds_old}
use Rattle.supported_states.proofs.small_parts.small.add.Goals as goal

pub returns-in_ok-push : goal.returns-in_ok-push
returns-in_ok-push c = λ found. (
    let spot = c.in_ok-spot_of.field-0 in
    let placed = c.args.placed.now in
    let is : spot ≡ spot_of placed = c.in_ok-spot_of.ensures in
    let before : Found = c.args.found.now in
    let after = c.insert.new.self in
    let Comes : Spot → Type 0 = λ one. Updates spot_cmp before.spots after one true in
    let updates = subst Comes is c.in_ok-insert.ensures.updates in
    let told : not (holds before.spots placed) ≡ c.in_ok-insert.field-0 = ap (λ (one : Spot). not (contains spot_cmp before.spots one)) (sym is) ∙ sym c.in_ok-insert.ensures.added in
    let now : Found = record { keys = c.push.new.self; spots = after } in
    finds_new before now placed found updates (not-true (holds before.spots placed) (told ∙ c.if-branch.true)) (c.in_ok-push.ensures.items ∙ ap (λ one. before.keys.items ++ one ∷ []) c.in_ok-copy_placed.ensures))

pub returns-else-branch : goal.returns-else-branch
returns-else-branch c = λ found. (
    let spot = c.in_ok-spot_of.field-0 in
    let placed = c.args.placed.now in
    let is : spot ≡ spot_of placed = c.in_ok-spot_of.ensures in
    let before : Found = c.args.found.now in
    let after = c.insert.new.self in
    let Comes : Spot → Type 0 = λ one. Updates spot_cmp before.spots after one true in
    let updates = subst Comes is c.in_ok-insert.ensures.updates in
    let told : not (holds before.spots placed) ≡ c.in_ok-insert.field-0 = ap (λ (one : Spot). not (contains spot_cmp before.spots one)) (sym is) ∙ sym c.in_ok-insert.ensures.added in
    let now : Found = record { keys = before.keys; spots = after } in
    finds_old before now placed found updates (not-no (holds before.spots placed) (told ∙ c.if-branch.false)) refl)
