use Rattle.std.proofs.Common.{◌+◌, ℕ, List, Contains, length, Option, sym, subst, subst₂}
use Rattle.graphs.specs.base_chains.Chains.{base_at}
use Rattle.graphs.specs.base_chains.Climbs.{cycle_of}
use Rattle.graphs.specs.base_chains.Walks.{IsFirst, IsWalk}
use Rattle.graphs.specs.declared.base_chains.walking.Walk.{Walk}
use Rattle.graphs.proofs.base_chains.walks.Turns.{IsWalking, walk_cycle, walk_more, walk_ordered}
use Rattle.graphs.proofs.base_chains.walking.walk_bases.Goals as goal
use Rattle.graphs.proofs.base_chains.walking.walk_bases.Goals.{in-None, in-Some}

pub loop-place-preserved : goal.loop-place-preserved
loop-place-preserved c =
    let base = base_at c.args.bases.now in
    let count = length c.args.bases.now in
    let path = c.in_ok-way.way.path.items in
    let Walked : List ℕ → Option ℕ → Type 0 = λ order first. IsWalking base count (c.loop-place.place + 1) c.climb.new.seen.items order first in
    let Found : List ℕ → Type 0 = λ places. IsFirst (Contains (cycle_of places c.in_ok-way.way.exit)) c.first_on_cycle.result in
    subst₂ Walked (sym c.in_ok-append_reversed.ensures) (sym c.earlier-first.ensures)
    (walk_more base count c.loop-place.place c.loop-place.seen.items c.climb.new.seen.items c.loop-place.order.items path
    c.loop-place.first c.first_on_cycle.result c.in_ok-way.way.exit
    c.loop-place.invariant c.in_ok-way.ensures (subst Found c.as_slice.ensures.value c.first_on_cycle.ensures))

pub returns : goal.returns
returns c =
    let base = base_at c.args.bases.now in
    let count = length c.args.bases.now in
    let Told : Walk → Type 0 = λ walk. IsWalk base count walk in
    let Walked : Option ℕ → Type 0 = λ first. IsWalking base count c.loop-place.place c.loop-place.seen.items c.loop-place.order.items first in
    elim c.match-first.branch [
      | in-Some w ↦ subst Told (sym w.result-is)
          (walk_cycle base count c.loop-place.seen.items c.loop-place.order.items c.requires.within c.loop-place.place w.in-Some.place c.loop-place-test.false
          (subst Walked w.in-Some.is c.loop-place.invariant))
      | in-None w ↦ subst Told (sym w.result-is)
          (walk_ordered base count c.loop-place.seen.items c.loop-place.order.items c.requires.within c.loop-place.place c.loop-place-test.false
          (subst Walked w.in-None.is c.loop-place.invariant))
    ]
