use Rattle.std.proofs.Common.{refl, ◌≡◌, ◌≢◌, ◌+◌, ◌<◌, ⊎_elim, ℕ, subst, arith, ◌≤◌, length}
use Rattle.std.proofs.lemmas.Bool.{both_ways, cases_eq}
use Rattle.std.proofs.lemmas.Option.{slice_get_read}
use Rattle.emc_base.specs.Lists.{At}
use Rattle.emc_base.proofs.Lists.{at_once}
use Rattle.round_trip.specs.Words.{Column}
use Rattle.groupings.specs.name_places.GivenNames.{IsGivenBefore}
use Rattle.groupings.proofs.name_places.KnownNames.{apart_names, not_apart}
use Rattle.schema_names.proofs.columns.stand_first.Goals as goal

pub returns-then-is_given_before : goal.returns-then-is_given_before
returns-then-is_given_before c =
    let cols = c.args.cols.now in
    let here = slice_get_read _ _ c.loop-place.place _ refl c.loop-place-test.true c.index-cols-place.is in
    let given = (c.is_given_before.ensures cols c.requires).0 c.if-is_given_before.true in
    (λ no. absurd cc, λ apart. absurd (not_apart (λ (one : Column). one.name) cols c.loop-place.place c.index-cols-place.result here given apart))

pub loop-place-preserved : goal.loop-place-preserved
loop-place-preserved c = λ j col at before given.
    let cols = c.args.cols.now in
    let place = c.loop-place.place in
    let here = slice_get_read _ _ place _ refl c.loop-place-test.true c.index-cols-place.is in
    ⊎_elim
    (λ (same : j ≡ place).
    let at_place : At cols place col = subst (λ (k : ℕ). At cols k col) same at in
    let given_here : IsGivenBefore (λ (one : Column). one.name) cols place col = subst (λ (k : ℕ). IsGivenBefore (λ (one : Column). one.name) cols k col) same given in
    let P : Column → Type 0 = λ x. IsGivenBefore (λ (one : Column). one.name) cols place x in
    both_ways c.is_given_before.result c.if-is_given_before.false
    ((c.is_given_before.ensures cols c.requires).1 (subst P (at_once cols place col c.index-cols-place.result at_place here) given_here)))
    (λ (other : j ≢ place). c.loop-place.invariant j col at (let less : j < place + 1 = before in omega arith) given)
    (cases_eq j place)

pub returns : goal.returns
returns c = (
  λ _. apart_names (λ (one : Column). one.name) c.args.cols.now (λ j col here inside.
      let end : length c.args.cols.now ≤ c.loop-place.place = c.loop-place-test.false in
      c.loop-place.invariant j col here (omega arith)),
  λ _. refl,
)
