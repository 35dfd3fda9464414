use Rattle.std.proofs.Common.{◌≡◌, List, ◌∷◌, not, true, sym, ap, subst, ◌∙◌}
use Rattle.std.specs.BTreeSet.{Updates, contains}
use Rattle.std.proofs.lemmas.Bool.{not-true}
use Rattle.population.specs.declared.placed.PlacedKey.{PlacedKey}
use Rattle.supported_states.specs.Gathered.{IsGathered}
use Rattle.supported_states.specs.Spots.{holds, spot_cmp, spot_of}
use Rattle.supported_states.specs.declared.spots.Spot.{Spot}
use Rattle.supported_states.proofs.Gathering.{gathers_new, gathers_old, not-no}
use Rattle.supported_states.proofs.distinct.add_new.Goals as goal

pub returns-in_ok-push : goal.returns-in_ok-push
returns-in_ok-push c = λ behind gathered. (
    let spot = c.in_ok-spot_of.field-0 in
    let is : spot ≡ spot_of c.args.placed = c.in_ok-spot_of.ensures in
    let before = c.args.spots.now in
    let after = c.insert.new.self in
    let Comes : Spot → Type 0 = λ one. Updates spot_cmp before after one true in
    let updates = subst Comes is c.in_ok-insert.ensures.updates in
    let told : not (holds before c.args.placed) ≡ c.in_ok-insert.field-0 = ap (λ (one : Spot). not (contains spot_cmp before one)) (sym is) ∙ sym c.in_ok-insert.ensures.added in
    let Gathered : List PlacedKey → Type 0 = IsGathered (c.args.placed ∷ behind) after in
    subst Gathered (sym c.in_ok-push.ensures.items)
    (gathers_new behind before after c.args.kept.now.items c.args.placed gathered updates (not-true (holds before c.args.placed) (told ∙ c.if-branch.true))))

pub returns-else-branch : goal.returns-else-branch
returns-else-branch c = λ behind gathered. (
    let spot = c.in_ok-spot_of.field-0 in
    let is : spot ≡ spot_of c.args.placed = c.in_ok-spot_of.ensures in
    let before = c.args.spots.now in
    let after = c.insert.new.self in
    let Comes : Spot → Type 0 = λ one. Updates spot_cmp before after one true in
    let updates = subst Comes is c.in_ok-insert.ensures.updates in
    let told : not (holds before c.args.placed) ≡ c.in_ok-insert.field-0 = ap (λ (one : Spot). not (contains spot_cmp before one)) (sym is) ∙ sym c.in_ok-insert.ensures.added in
    gathers_old behind before after c.args.kept.now.items c.args.placed gathered updates (not-no (holds before c.args.placed) (told ∙ c.if-branch.false)))
