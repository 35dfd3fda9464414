use Rattle.std.proofs.Common.{refl, ◌≡◌, ◌≢◌, ◌+◌, ◌<◌, ⊎_elim, ℕ, subst, arith, ◌≤◌, length}
use Rattle.std.proofs.lemmas.Bool.{both_ways, cases_eq}
use Rattle.std.proofs.lemmas.Option.{slice_get_read}
use Rattle.emc_base.specs.Lists.{At}
use Rattle.emc_base.proofs.Lists.{at_once}
use Rattle.groupings.specs.name_places.GivenNames.{IsGivenBefore}
use Rattle.groupings.proofs.name_places.KnownNames.{apart_names, not_apart}
use Rattle.groupings.proofs.name_places.once.stand_first.Goals as goal

pub returns-then-is_given_before : goal.returns-then-is_given_before
returns-then-is_given_before g c =
    let items = c.args.items.now in
    let here = slice_get_read _ _ c.loop-place.place _ refl c.loop-place-test.true c.index-items-place.is in
    let given = (c.is_given_before.ensures items c.requires).0 c.if-is_given_before.true in
    (λ no. absurd cc, λ apart. absurd (not_apart g.T.Named.name_in items c.loop-place.place c.index-items-place.result here given apart))

pub loop-place-preserved : goal.loop-place-preserved
loop-place-preserved g c = λ j item at before given.
    let items = c.args.items.now in
    let place = c.loop-place.place in
    let here = slice_get_read _ _ place _ refl c.loop-place-test.true c.index-items-place.is in
    ⊎_elim
    (λ (same : j ≡ place).
    let at_place : At items place item = subst (λ (k : ℕ). At items k item) same at in
    let given_here : IsGivenBefore g.T.Named.name_in items place item = subst (λ (k : ℕ). IsGivenBefore g.T.Named.name_in items k item) same given in
    let P : g.row.T.Denot → Type 0 = λ x. IsGivenBefore g.T.Named.name_in items place x in
    both_ways c.is_given_before.result c.if-is_given_before.false
    ((c.is_given_before.ensures items c.requires).1 (subst P (at_once items place item c.index-items-place.result at_place here) given_here)))
    (λ (other : j ≢ place). c.loop-place.invariant j item at (let less : j < place + 1 = before in omega arith) given)
    (cases_eq j place)

pub returns : goal.returns
returns g c = (
  λ _. apart_names g.T.Named.name_in c.args.items.now (λ j item here inside.
      let end : length c.args.items.now ≤ c.loop-place.place = c.loop-place-test.false in
      c.loop-place.invariant j item here (omega arith)),
  λ _. refl,
)
