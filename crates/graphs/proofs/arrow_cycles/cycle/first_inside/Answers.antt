use Rattle.std.proofs.Common.{◌≡◌, ◌<◌, ◌≤◌, ℕ, Option, None, inl, inr, length, get_or, subst, arith}
use Rattle.std.proofs.lemmas.Bool.{both_ways, cases_eq}
use Rattle.std.proofs.lemmas.Option.{slice_get-get_or, slice_get_within}
use Rattle.emc_base.specs.Lists.{At}
use Rattle.emc_base.proofs.Lists.{at_once}
use Rattle.graphs.specs.arrow_cycles.Numbers.{IsInside}
use Rattle.graphs.specs.declared.arrow_cycles.arrow.Arrow.{Arrow}
use Rattle.graphs.proofs.arrow_cycles.cycle.first_inside.Goals as goal

pub loop-place-init : goal.loop-place-init
loop-place-init c = λ i arrow none _ _. absurd (omega (arith, none))

pub returns-then-is_inside : goal.returns-then-is_inside
returns-then-is_inside c =
    let arrows = c.args.arrows.now in
    let place = c.loop-place.place in (
      (get_or arrows place None, slice_get-get_or arrows place None c.loop-place-test.true, c.is_inside.ensures.0 c.if-is_inside.true),
      λ i found.
          let not_before : ¬ (i < place) = λ before. c.loop-place.invariant i found.0 before found.1 found.2 in
          omega (arith, not_before),
    )

pub loop-place-preserved : goal.loop-place-preserved
loop-place-preserved c = λ i arrow before at inside. elim (cases_eq i c.loop-place.place) [
  | inl here ↦
      let arrows = c.args.arrows.now in
      let place = c.loop-place.place in
      let P : ℕ → Type 0 = λ k. At arrows k arrow in
      let Q : Option Arrow → Type 0 = λ one. IsInside c.args.marks.now one in
      let same : arrow ≡ get_or arrows place None = at_once arrows place arrow (get_or arrows place None) (subst P here at) (slice_get-get_or arrows place None c.loop-place-test.true) in
      both_ways c.is_inside.result c.if-is_inside.false (c.is_inside.ensures.1 (subst Q same inside))
  | inr other ↦ c.loop-place.invariant i arrow (omega (arith, before, other)) at inside
]

pub returns : goal.returns
returns c = λ i found.
    let within : i < length c.args.arrows.now = slice_get_within c.args.arrows.now i found.0 found.1 in
    let end : length c.args.arrows.now ≤ c.loop-place.place = c.loop-place-test.false in
    c.loop-place.invariant i found.0 (omega (arith, within, end)) found.1 found.2
