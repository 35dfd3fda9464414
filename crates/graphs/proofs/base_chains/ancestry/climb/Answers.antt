use Rattle.std.proofs.Common.{rules, ◌≡◌, ◌<◌, ◌+◌, length, slice_index, sym, ◌∙◌, arith}
use Rattle.graphs.specs.base_chains.Chains.{base_at, direct}
use Rattle.graphs.specs.base_chains.Jumps.{depth}
use Rattle.graphs.proofs.base_chains.Chains.{base_read}
use Rattle.graphs.proofs.base_chains.Levels.{deep_base, depth_step, jump_inside}
use Rattle.graphs.proofs.base_chains.ancestry.climb.Goals as goal

pub offset_bounds-depths-jump : goal.offset_bounds-depths-jump
offset_bounds-depths-jump c =
    let bases = c.args.bases.now in
    let jump = slice_index c.args.jumps.now c.args.place in
    let inside : jump < length bases = jump_inside (base_at bases) (length bases) c.requires.known.forest c.args.place jump c.requires.inside (c.requires.known.up c.args.place c.requires.inside) in
    let alike : length c.args.depths.now ≡ length bases = c.requires.known.depths_known.size in
    let within : jump < length c.args.depths.now = omega (arith, inside, alike) in
    search (rules, within)

pub bounds-depths-jump : goal.bounds-depths-jump
bounds-depths-jump c =
    let bases = c.args.bases.now in
    let jump = slice_index c.args.jumps.now c.args.place in
    let inside : jump < length bases = jump_inside (base_at bases) (length bases) c.requires.known.forest c.args.place jump c.requires.inside (c.requires.known.up c.args.place c.requires.inside) in
    let alike : length c.args.depths.now ≡ length bases = c.requires.known.depths_known.size in
    omega (arith, inside, alike)

pub unreachable-requires : goal.unreachable-requires
unreachable-requires c =
    let bases = c.args.bases.now in
    let is : slice_index c.args.depths.now c.args.place ≡ depth (base_at bases) (length bases) c.args.place = c.requires.known.depths_known.deep c.args.place c.requires.inside in
    let deeper : c.args.wanted < slice_index c.args.depths.now c.args.place = c.requires.deeper in
    let some : 0 < c.args.wanted = c.requires.wanted in
    let deep : 1 < depth (base_at bases) (length bases) c.args.place = omega (arith, is, deeper, some) in
    let next = deep_base (base_at bases) (length bases) c.requires.known.forest c.args.place c.requires.inside deep in
    c.in_default.not-Some next.0 (base_read bases c.args.place ∙ next.1)

pub returns-clause-above : goal.returns-clause-above
returns-clause-above c = direct c.args.place c.in-Some.base (sym (base_read c.args.bases.now c.args.place) ∙ c.in-Some.is)

pub returns-clause-deep : goal.returns-clause-deep
returns-clause-deep c =
    let bases = c.args.bases.now in
    let upper = c.in-Some.base in
    let up = sym (base_read bases c.args.place) ∙ c.in-Some.is in
    let here : slice_index c.args.depths.now c.args.place ≡ depth (base_at bases) (length bases) c.args.place = c.requires.known.depths_known.deep c.args.place c.requires.inside in
    let there : slice_index c.args.depths.now upper ≡ depth (base_at bases) (length bases) upper =
    c.requires.known.depths_known.deep upper (c.requires.known.forest.within c.args.place upper up) in
    let step : depth (base_at bases) (length bases) c.args.place ≡ depth (base_at bases) (length bases) upper + 1 =
    depth_step (base_at bases) (length bases) c.requires.known.forest c.args.place upper c.requires.inside up in
    let deeper : c.args.wanted < slice_index c.args.depths.now c.args.place = c.requires.deeper in
    omega (arith, here, there, step, deeper)
