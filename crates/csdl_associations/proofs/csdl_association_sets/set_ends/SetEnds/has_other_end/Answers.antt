use Rattle.std.proofs.Common.{◌≡◌, ℕ, ◌+◌, ◌<◌, ◌≤◌, ⊎_elim, Some, ap, arith, length, refl, subst, sym, ◌∙◌}
use Rattle.std.proofs.lemmas.Bool.{both_ways, cases_lt}
use Rattle.std.proofs.lemmas.Option.{slice_get-get_or, slice_get_read}
use Rattle.emc_base.specs.Lists.{At}
use Rattle.emc_base.proofs.Lists.{at_once}
use Rattle.csdl_names.specs.declared.csdl_lists.raw.RawSetEnd.{RawSetEnd}
use Rattle.csdl_names.specs.csdl_lists.References.{names_in}
use Rattle.csdl_associations.specs.csdl_association_sets.SetEnds.{HasOtherType}
use Rattle.csdl_associations.proofs.csdl_association_sets.set_ends.SetEnds.has_other_end.Goals as goal

pub loop-end-init : goal.loop-end-init
loop-end-init c = λ k end early. absurd (let before : k < 0 = early in omega arith)

pub returns-then-is_other_type : goal.returns-then-is_other_type
returns-then-is_other_type c =
    (λ _. (c.loop-end.end-index, c.end-item.result, c.loop-end-test.true, sym c.end-item.is, c.is_other_type.ensures.0 c.if-is_other_type.true), λ _. refl)

pub loop-end-preserved : goal.loop-end-preserved
loop-end-preserved c = λ k end early here holds.
    let ends = c.args.ends.now in
    let n = c.loop-end.end-index in
    let item = c.end-item.result in
    let model = c.args.self.now in
    let Wrong : RawSetEnd → Type 0 = λ one. HasOtherType (names_in model) model c.args.association.now one in
    ⊎_elim
    (λ (before : k < n). c.loop-end.invariant k end before here holds)
    (λ (late : n ≤ k).
    let early_too : k < n + 1 = early in
    let same : k ≡ n = omega (arith, late, early_too) in
    let There : ℕ → Type 0 = λ j. At ends j end in
    let is : end ≡ item = at_once ends n end item (subst There same here) (slice_get_read _ _ n _ refl c.loop-end-test.true c.end-item.is) in
    both_ways c.is_other_type.result c.if-is_other_type.false (c.is_other_type.ensures.1 (subst Wrong is holds)))
    (cases_lt k n)

pub returns : goal.returns
returns c = (
  λ is. absurd cc,
  λ some.
      let ends = c.args.ends.now in
      let inside : some.0 < length ends = some.2 in
      let past : length ends ≤ c.loop-end.end-index = c.loop-end-test.false in
      let before : some.0 < c.loop-end.end-index = omega (arith, inside, past) in
      absurd (c.loop-end.invariant some.0 some.1 before (slice_get-get_or ends some.0 some.1 inside ∙ ap Some some.3) some.4),
)
