use Rattle.std.proofs.Common.{◌≡◌, not, refl, sym, ◌∙◌}
use Rattle.std.specs.BTreeSet.{contains}
use Rattle.std.proofs.lemmas.Bool.{not-true}
use Rattle.forced_entities.specs.Spots.{spot_cmp}
use Rattle.forced_entities.specs.declared.walk.Found.{Found}
use Rattle.forced_entities.proofs.Walking.{finds_new, finds_old, not-no}
use Rattle.forced_entities.proofs.walk.add.Goals as goal

pub returns-in_ok-push : goal.returns-in_ok-push
returns-in_ok-push c = λ found. (
    let spot = c.in_ok-spot_of.field-0 in
    let before : Found = c.args.found.now in
    let after = c.insert.new.self in
    let told : not (contains spot_cmp before.spots spot) ≡ c.in_ok-insert.field-0 = sym c.in_ok-insert.ensures.added in
    let now : Found = record { members = c.push.new.self; spots = after } in
    finds_new before now c.args.one spot c.in_ok-spot_of.ensures found c.in_ok-insert.ensures.updates (not-true (contains spot_cmp before.spots spot) (told ∙ c.if-branch.true)) c.in_ok-push.ensures.items)

pub returns-else-branch : goal.returns-else-branch
returns-else-branch c = λ found. (
    let spot = c.in_ok-spot_of.field-0 in
    let before : Found = c.args.found.now in
    let after = c.insert.new.self in
    let told : not (contains spot_cmp before.spots spot) ≡ c.in_ok-insert.field-0 = sym c.in_ok-insert.ensures.added in
    let now : Found = record { members = before.members; spots = after } in
    finds_old before now c.args.one spot c.in_ok-spot_of.ensures found c.in_ok-insert.ensures.updates (not-no (contains spot_cmp before.spots spot) (told ∙ c.if-branch.false)) refl)
