use Rattle.std.proofs.Common.{◌≡◌, ◌<◌, ℕ, List, length, Bool, Option, sym, subst, subst₂, ◌∙◌, arith}
use Rattle.std.proofs.lemmas.List.Elements.{All-contains}
use Rattle.emc_base.proofs.Mapped.{contains_at}
use Rattle.graphs.specs.base_chains.Chains.{base_at}
use Rattle.graphs.specs.base_chains.MarksBelow.{IsCarried}
use Rattle.graphs.proofs.base_chains.Chains.{base_read, has_base}
use Rattle.graphs.proofs.base_chains.orders.Orders.{stays_within}
use Rattle.graphs.proofs.base_chains.orders.Passing.{IsPassed, next_place, passed_all, passed_more, passed_start}
use Rattle.graphs.proofs.base_chains.marks.marked_below.Goals as goal

pub loop-place-init : goal.loop-place-init
loop-place-init c =
    let Passed : List ℕ → List Bool → Type 0 = λ left told. IsPassed (base_at c.args.bases.now) (length c.args.bases.now) c.args.order.now c.args.marks.now left told in
    subst₂ Passed (rw (c.into_iter-place-iterator.ensures.into_iter_gives, c.rev-place-items.ensures.source) (sym c.iter.ensures.rest)) (sym (c.in_ok-told.ensures.items_if_clones_equal (λ x y same. same)))
    (passed_start (base_at c.args.bases.now) (length c.args.bases.now) c.args.order.now c.args.marks.now c.requires.alike)

pub carry_mark-requires-clause-inside : goal.carry_mark-requires-clause-inside
carry_mark-requires-clause-inside c =
    let order = c.args.order.now in
    let rest = c.next.new.self.iter.rest.now in
    let place = c.in-Some.place.now in
    let told = c.loop-place.told.items in
    let Passed : List ℕ → Type 0 = λ left. IsPassed (base_at c.args.bases.now) (length c.args.bases.now) order c.args.marks.now left told in
    let inside : place < length c.args.bases.now = All-contains (λ i. i < length c.args.bases.now) order place c.requires.order.within
    (contains_at order (length rest) place (next_place (base_at c.args.bases.now) (length c.args.bases.now) order c.args.marks.now rest place told
    (subst Passed c.in-Some.ensures.steps c.loop-place.invariant))) in
    let alike : length told ≡ length c.args.bases.now = c.loop-place.invariant.size in
    omega (arith, inside, alike)

pub carry_mark-requires-clause-above : goal.carry_mark-requires-clause-above
carry_mark-requires-clause-above c = λ i is.
    let inside : i < length c.args.bases.now = stays_within c.args.bases.now c.args.order.now c.requires.order c.in-Some.place.now i (sym (base_read c.args.bases.now c.in-Some.place.now) ∙ is) in
    let alike : length c.loop-place.told.items ≡ length c.args.bases.now = c.loop-place.invariant.size in
    omega (arith, inside, alike)

pub loop-place-preserved : goal.loop-place-preserved
loop-place-preserved c =
    let base = base_at c.args.bases.now in
    let place = c.in-Some.place.now in
    let told = c.loop-place.told.items in
    let Passed : List ℕ → Type 0 = λ left. IsPassed base (length c.args.bases.now) c.args.order.now c.args.marks.now left told in
    let Carried : Option ℕ → Type 0 = λ o. IsCarried place o told c.carry_mark.new.told.items in
    passed_more base (length c.args.bases.now) c.args.order.now c.args.marks.now c.requires.order c.next.new.self.iter.rest.now place told c.carry_mark.new.told.items
    (subst Carried (base_read c.args.bases.now place) c.carry_mark.ensures)
    (subst Passed c.in-Some.ensures.steps c.loop-place.invariant)

pub returns : goal.returns
returns c = passed_all (base_at c.args.bases.now) (length c.args.bases.now) c.args.order.now c.args.marks.now c.requires.order c.loop-place.place-iterator.iter.rest.now
    c.loop-place.told.items c.in-None.ensures.steps.0 (has_base c.args.bases.now) c.loop-place.invariant
