use Rattle.std.proofs.Common.{◌<◌, length, List, ℕ, Option, sym, subst, subst₂}
use Rattle.graphs.specs.base_chains.Chains.{base_at}
use Rattle.graphs.proofs.base_chains.Ascents.{IsAscent, ascent_all, ascent_more, ascent_start, left_count, left_fewer}
use Rattle.graphs.proofs.base_chains.above.places_above.Goals as goal

pub loop-next-init : goal.loop-next-init
loop-next-init c =
    let P : List ℕ → Option ℕ → Type 0 = λ passed next. IsAscent (base_at c.args.bases.now) c.args.place passed next in
    subst₂ P (sym c.new-above.ensures.items) (sym c.base_at-next.ensures) (ascent_start (base_at c.args.bases.now) c.args.place)

pub loop-next-smaller : goal.loop-next-smaller
loop-next-smaller c =
    let base = base_at c.args.bases.now in
    let count = length c.args.bases.now in
    let P : Option ℕ → Type 0 = λ next. left_count base count next < left_count base count c.loop-next.next in
    subst P (sym c.base_at-next-in-Some.ensures)
    (left_fewer base c.requires.rooted count c.requires.within c.args.place c.in-Some.ancestor c.loop-next.above.items c.loop-next.next c.in-Some.is c.loop-next.invariant)

pub loop-next-preserved : goal.loop-next-preserved
loop-next-preserved c =
    let base = base_at c.args.bases.now in
    let P : List ℕ → Option ℕ → Type 0 = λ passed next. IsAscent base c.args.place passed next in
    subst₂ P (sym c.in_ok-push.ensures.items) (sym c.base_at-next-in-Some.ensures)
    (ascent_more base c.requires.rooted c.args.place c.loop-next.above.items c.loop-next.next c.in-Some.ancestor c.in-Some.is c.loop-next.invariant)

pub returns : goal.returns
returns c = ascent_all (base_at c.args.bases.now) c.args.place c.loop-next.above.items c.loop-next.next c.in_default.is c.loop-next.invariant
