use Rattle.std.proofs.Common.{rules, ◌≡◌, ◌<◌, length, slice_index, inl, sym, ◌∙◌, arith}
use Rattle.graphs.specs.base_chains.Chains.{base_at, direct}
use Rattle.graphs.proofs.base_chains.Chains.{base_read}
use Rattle.graphs.proofs.base_chains.Levels.{above_inside, first_above, first_jump, no_deeper, second_above, second_jump}
use Rattle.graphs.proofs.base_chains.jumping.jump_from.Goals as goal

pub offset_bounds-jumps-base : goal.offset_bounds-jumps-base
offset_bounds-jumps-base c =
    let bases = c.args.bases.now in
    let inside : c.in-Some.base < length bases = c.requires.forest.within c.args.place c.in-Some.base (sym (base_read bases c.args.place) ∙ c.in-Some.is) in
    let alike : length c.args.jumps.now ≡ length bases = c.requires.alike in
    let within : c.in-Some.base < length c.args.jumps.now = omega (arith, inside, alike) in
    search (rules, within)

pub bounds-jumps-base : goal.bounds-jumps-base
bounds-jumps-base c =
    let bases = c.args.bases.now in
    let inside : c.in-Some.base < length bases = c.requires.forest.within c.args.place c.in-Some.base (sym (base_read bases c.args.place) ∙ c.in-Some.is) in
    let alike : length c.args.jumps.now ≡ length bases = c.requires.alike in
    omega (arith, inside, alike)

pub offset_bounds-jumps-first : goal.offset_bounds-jumps-first
offset_bounds-jumps-first c =
    let bases = c.args.bases.now in
    let base = base_at bases in
    let is = sym (base_read bases c.args.place) ∙ c.in-Some.is in
    let first = slice_index c.args.jumps.now c.in-Some.base in
    let inside : first < length bases = above_inside base (length bases) c.requires.forest c.args.place first (first_above base c.args.jumps.now c.args.place c.in-Some.base is c.requires.made) in
    let alike : length c.args.jumps.now ≡ length bases = c.requires.alike in
    let within : first < length c.args.jumps.now = omega (arith, inside, alike) in
    search (rules, within)

pub bounds-jumps-first : goal.bounds-jumps-first
bounds-jumps-first c =
    let bases = c.args.bases.now in
    let base = base_at bases in
    let is = sym (base_read bases c.args.place) ∙ c.in-Some.is in
    let first = slice_index c.args.jumps.now c.in-Some.base in
    let inside : first < length bases = above_inside base (length bases) c.requires.forest c.args.place first (first_above base c.args.jumps.now c.args.place c.in-Some.base is c.requires.made) in
    let alike : length c.args.jumps.now ≡ length bases = c.requires.alike in
    omega (arith, inside, alike)

pub rise-requires : goal.rise-requires
rise-requires c =
    let bases = c.args.bases.now in
    let is = sym (base_read bases c.args.place) ∙ c.in-Some.is in
    no_deeper (base_at bases) (length bases) c.requires.forest c.args.depths.now c.requires.depths c.in-Some.base (slice_index c.args.jumps.now c.in-Some.base)
    (c.requires.forest.within c.args.place c.in-Some.base is) (first_jump (base_at bases) c.args.jumps.now c.args.place c.in-Some.base is c.requires.made)

pub rise-requires-2 : goal.rise-requires-2
rise-requires-2 c =
    let bases = c.args.bases.now in
    let base = base_at bases in
    let jumps = c.args.jumps.now in
    let is = sym (base_read bases c.args.place) ∙ c.in-Some.is in
    let first = slice_index jumps c.in-Some.base in
    no_deeper base (length bases) c.requires.forest c.args.depths.now c.requires.depths first (slice_index jumps first)
    (above_inside base (length bases) c.requires.forest c.args.place first (first_above base jumps c.args.place c.in-Some.base is c.requires.made))
    (second_jump base jumps c.args.place c.in-Some.base is c.requires.made)

pub returns-then-rise : goal.returns-then-rise
returns-then-rise c =
    let bases = c.args.bases.now in
    inl (second_above (base_at bases) c.args.jumps.now c.args.place c.in-Some.base (sym (base_read bases c.args.place) ∙ c.in-Some.is) c.requires.made)

pub returns-else-rise : goal.returns-else-rise
returns-else-rise c = inl (direct c.args.place c.in-Some.base (sym (base_read c.args.bases.now c.args.place) ∙ c.in-Some.is))
