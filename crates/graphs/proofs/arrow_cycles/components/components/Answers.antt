use Rattle.std.proofs.Common.{ℕ, length, inl, inr, subst, arith}
use Rattle.std.proofs.lemmas.Bool.{cases_eq}
use Rattle.emc_base.specs.Lists.{At}
use Rattle.graphs.specs.arrow_cycles.Ends.{GoesTo}
use Rattle.graphs.specs.declared.arrow_cycles.search.Mark.TheVariants.{New}
use Rattle.graphs.proofs.arrow_cycles.Marking.{all_closed}
use Rattle.graphs.proofs.arrow_cycles.components.components.Goals as goal

pub returns : goal.returns
returns c =
    let now = c.loop-place.search in
    all_closed (GoesTo c.args.ends.now) now.marks.items now.path.items now.groups.items now.pending.items (length now.components.items)
    c.loop-place.invariant.0.1 (length c.args.ends.now) c.loop-place.invariant.0.0 c.loop-place.invariant.1
    (λ v inside. c.loop-place.invariant.2 v (let past = c.loop-place-test.false in omega (arith, inside, past)))

pub loop-place-init : goal.loop-place-init
loop-place-init c = (c.in_ok-search.ensures.0, c.in_ok-search.ensures.1, λ v none. absurd (omega (arith, none)))

pub visit-requires-clause-search : goal.visit-requires-clause-search
visit-requires-clause-search c = c.loop-place.invariant.0

pub visit-requires-clause-inside : goal.visit-requires-clause-inside
visit-requires-clause-inside c = c.loop-place-test.true

pub loop-place-preserved : goal.loop-place-preserved
loop-place-preserved c = (
  c.in_ok-visit.ensures.later.search,
  c.in_ok-visit.ensures.empty,
  λ v inside at. elim (cases_eq v c.loop-place.place) [
    | inl here ↦
        let P : ℕ → Type 0 = λ k. At c.visit.new.self.marks.items k New in
        c.in_ok-visit.ensures.seen (subst P here at)
    | inr other ↦ c.loop-place.invariant.2 v (omega (arith, inside, other)) (c.in_ok-visit.ensures.later.fresh v at)
  ],
)
