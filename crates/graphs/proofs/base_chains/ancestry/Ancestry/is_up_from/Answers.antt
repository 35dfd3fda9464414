use Rattle.std.proofs.Common.{◌≡◌, ◌↔◌, ◌<◌, ◌≤◌, eqb, eqb-true, eq-eqb, inl, length, slice_index, List, Option, ℕ, sym, subst, arith}
use Rattle.std.specs.Bool.{IsTrue}
use Rattle.graphs.specs.base_chains.Chains.{base_at, IsUpFrom}
use Rattle.graphs.specs.base_chains.Jumps.{depth}
use Rattle.graphs.proofs.base_chains.Levels.{above_inside, above_less, climbed_back, climbed_on, depth_read, depth_some, up_level}
use Rattle.graphs.proofs.base_chains.ancestry.Ancestry.is_up_from.Goals as goal

pub climb-place-requires-clause-wanted : goal.climb-place-requires-clause-wanted
climb-place-requires-clause-wanted c =
    let known = c.self.invariant in
    let bases = c.self.inside.bases.now in
    let base = base_at bases in
    let count = length bases in
    let upper_inside : c.args.upper < count = subst (λ (xs : List (Option ℕ)). c.args.upper < length xs) (sym c.self.view_is) c.requires.upper in
    let is : c.index-wanted.result.now ≡ depth base count c.args.upper =
    depth_read base count known.forest c.self.inside.depths.items known.depths_known c.args.upper c.index-wanted.result.now upper_inside c.index-wanted.ensures in
    let some : 0 < depth base count c.args.upper = depth_some base count known.forest c.args.upper upper_inside in
    omega (arith, is, some)

pub loop-self-smaller : goal.loop-self-smaller
loop-self-smaller c =
    let known = c.self.invariant in
    let bases = c.self.inside.bases.now in
    let base = base_at bases in
    let count = length bases in
    let depths = c.self.inside.depths.items in
    let place = c.loop-self.place in
    let next = c.climb-place.result in
    let here : slice_index depths place ≡ depth base count place = known.depths_known.deep place c.loop-self.invariant.0 in
    let there : slice_index depths next ≡ depth base count next = known.depths_known.deep next (above_inside base count known.forest place next c.climb-place.ensures.above) in
    let less : depth base count next < depth base count place = above_less base count known.forest place next c.loop-self.invariant.0 c.climb-place.ensures.above in
    let fewer : slice_index depths next < slice_index depths place = omega (arith, here, there, less) in
    fewer

pub loop-self-preserved : goal.loop-self-preserved
loop-self-preserved c =
    let known = c.self.invariant in
    let bases = c.self.inside.bases.now in
    let base = base_at bases in
    let count = length bases in
    let depths = c.self.inside.depths.items in
    let place = c.loop-self.place in
    let next = c.climb-place.result in
    let inside : next < count = above_inside base count known.forest place next c.climb-place.ensures.above in
    let upper_inside : c.args.upper < count = subst (λ (xs : List (Option ℕ)). c.args.upper < length xs) (sym c.self.view_is) c.requires.upper in
    let is : c.index-wanted.result.now ≡ depth base count c.args.upper =
    depth_read base count known.forest depths known.depths_known c.args.upper c.index-wanted.result.now upper_inside c.index-wanted.ensures in
    let there : slice_index depths next ≡ depth base count next = known.depths_known.deep next inside in
    let Deep : List ℕ → Type 0 = λ xs. c.index-wanted.result.now ≤ slice_index xs next in
    let deep : c.index-wanted.result.now ≤ slice_index depths next = subst Deep c.as_slice.ensures.value c.climb-place.ensures.deep in
    let level : depth base count c.args.upper ≤ depth base count next = omega (arith, is, there, deep) in (
      inside,
      (
        λ up. climbed_on base count known.forest place next c.args.upper c.loop-self.invariant.0 upper_inside c.climb-place.ensures.above level (c.loop-self.invariant.1.0 up),
        λ up. c.loop-self.invariant.1.1 (climbed_back base count known.forest place next c.args.upper c.climb-place.ensures.above up),
      ),
    )

pub returns : goal.returns
returns c =
    let known = c.self.invariant in
    let bases = c.self.inside.bases.now in
    let base = base_at bases in
    let count = length bases in
    let place = c.loop-self.place in
    let upper = c.args.upper in
    let upper_inside : upper < count = subst (λ (xs : List (Option ℕ)). upper < length xs) (sym c.self.view_is) c.requires.upper in
    let is : c.index-wanted.result.now ≡ depth base count upper =
    depth_read base count known.forest c.self.inside.depths.items known.depths_known upper c.index-wanted.result.now upper_inside c.index-wanted.ensures in
    let here : c.index.result.now ≡ depth base count place =
    depth_read base count known.forest c.self.inside.depths.items known.depths_known place c.index.result.now c.loop-self.invariant.0 c.index.ensures in
    let past = c.loop-self-test.false in
    let level : depth base count place ≤ depth base count upper = omega (arith, is, here, past) in
    let Told : List (Option ℕ) → Type 0 = λ xs. IsTrue (eqb place upper) ↔ IsUpFrom (base_at xs) c.args.lower upper in
    subst Told c.self.view_is (
      λ same. c.loop-self.invariant.1.1 (inl (eqb-true place upper same)),
      λ up. eq-eqb place upper (up_level base count known.forest place upper c.loop-self.invariant.0 level (c.loop-self.invariant.1.0 up)),
    )
