use Rattle.std.proofs.Common.{◌≡◌, ◌<◌, ℕ, All, false, get_or, length, refl, sym, subst}
use Rattle.std.proofs.lemmas.List.{take_all}
use Rattle.std.proofs.lemmas.Option.{slice_get-get_or, slice_get_read}
use Rattle.emc_base.specs.Lists.{At}
use Rattle.emc_base.proofs.Lists.{at_once}
use Rattle.region_states.specs.region_basis.BasisOf.{basis_of}
use Rattle.containment.specs.declared.same_conflicts.written.Written.{Written}
use Rattle.containment.specs.same_conflicts.Matching.{rows_alike}
use Rattle.containment.proofs.Turns.{all_further}
use Rattle.containment.proofs.same_conflicts.rivals.rival_of.Goals as goal

pub loop-place-preserved : goal.loop-place-preserved
loop-place-preserved c =
    let written = c.args.written.now in
    let places = c.args.places.now in
    let i = c.loop-place.place-index in
    let place : ℕ = get_or places i 0 in
    let within : place < length written = c.requires i 0 c.loop-place-test.true in
    let item = c.index-written-place.result in
    let here : At written place item = slice_get_read _ _ place _ refl within c.index-written-place.is in
    let Differs : Written → Type 0 = λ one. rows_alike (basis_of c.args.parts.now) one c.args.two.now ≡ false in
    all_further (λ p. (one : Written) → At written p one → Differs one) places i place (slice_get-get_or places i 0 c.loop-place-test.true) c.loop-place.invariant
    (λ one at. subst Differs (at_once written place item one here at) (sym c.if-rows_alike.ensures))

pub returns-then-rows_alike-clause-found : goal.returns-then-rows_alike-clause-found
returns-then-rows_alike-clause-found c =
    let written = c.args.written.now in
    let places = c.args.places.now in
    let i = c.loop-place.place-index in
    let place : ℕ = get_or places i 0 in
    let within : place < length written = c.requires i 0 c.loop-place-test.true in
    (i, place, slice_get-get_or places i 0 c.loop-place-test.true, slice_get_read _ _ place _ refl within c.index-written-place.is, sym c.if-rows_alike.ensures)

pub returns-clause-none : goal.returns-clause-none
returns-clause-none c =
    let Differs : Written → Type 0 = λ one. rows_alike (basis_of c.args.parts.now) one c.args.two.now ≡ false in
    subst (All (λ p. (one : Written) → At c.args.written.now p one → Differs one)) (take_all c.loop-place.place-index c.args.places.now c.loop-place-test.false) c.loop-place.invariant
