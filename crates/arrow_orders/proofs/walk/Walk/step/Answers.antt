use Rattle.std.proofs.Common.{rules, ◌≡◌, ◌<◌, ◌≤◌, ℕ, List, [], get_or, length, refl, subst, ◌∙◌, arith}
use Rattle.std.proofs.lemmas.List.{get_or_default}
use Rattle.std.proofs.lemmas.Option.{slice_get-get_or}
use Rattle.emc_base.specs.Lists.{At}
use Rattle.graphs.proofs.arrow_cycles.Places.{at_read}
use Rattle.arrow_orders.proofs.walking.Steps.{top_marked}
use Rattle.arrow_orders.proofs.walk.Walk.step.Goals as goal

pub bounds-ends-top : goal.bounds-ends-top
bounds-ends-top c =
    let inside = top_marked c.args.ends.now c.args.self.now c.requires.walk c.args.top c.requires.top in
    let size = c.requires.walk.marks_size in
    omega (arith, inside, size)

pub offset_bounds-ends-top : goal.offset_bounds-ends-top
offset_bounds-ends-top c =
    let inside = top_marked c.args.ends.now c.args.self.now c.requires.walk c.args.top c.requires.top in
    let size = c.requires.walk.marks_size in
    let within : c.args.top < length c.args.ends.now = omega (arith, inside, size) in
    search (rules, within)

pub index-count-requires : goal.index-count-requires
index-count-requires c =
    let inside = top_marked c.args.ends.now c.args.self.now c.requires.walk c.args.top c.requires.top in
    let size = c.requires.walk.marks_size in
    let counts = c.requires.walk.counts_size in
    omega (arith, inside, size, counts)

pub follow-requires-clause-next : goal.follow-requires-clause-next
follow-requires-clause-next c =
    let old = c.args.self.now in
    let inside = top_marked c.args.ends.now old c.requires.walk c.args.top c.requires.top in
    let size = c.requires.walk.marks_size in
    let counts = c.requires.walk.counts_size in
    let within : c.args.top < length c.args.ends.now = omega (arith, inside, size) in
    let listed : c.as_slice-listed.result.now ≡ get_or c.args.ends.now c.args.top [] = c.as_slice-listed.ensures.items ∙ (c.index-ends-top.is ∙ get_or_default c.args.ends.now c.args.top c.index-ends-top.result [] within) in
    record {
      listed = get_or c.args.ends.now c.args.top [];
      told = slice_get-get_or c.args.ends.now c.args.top [] within;
      count = c.index-count.result.now;
      taken = at_read old.taken.items c.args.top c.index-count.result.now c.index-count.result.now (omega (arith, inside, size, counts)) c.index-count.ensures refl;
      next = subst (λ (list : List ℕ). At list c.index-count.result.now (get_or c.as_slice-listed.result.now c.index-count.result.now 0)) listed
          (slice_get-get_or c.as_slice-listed.result.now c.index-count.result.now 0 c.if-count-listed.true);
      more_is = omega arith;
    }

pub close-requires-clause-all : goal.close-requires-clause-all
close-requires-clause-all c =
    let old = c.args.self.now in
    let inside = top_marked c.args.ends.now old c.requires.walk c.args.top c.requires.top in
    let size = c.requires.walk.marks_size in
    let counts = c.requires.walk.counts_size in
    let within : c.args.top < length c.args.ends.now = omega (arith, inside, size) in
    let listed : c.as_slice-listed.result.now ≡ get_or c.args.ends.now c.args.top [] = c.as_slice-listed.ensures.items ∙ (c.index-ends-top.is ∙ get_or_default c.args.ends.now c.args.top c.index-ends-top.result [] within) in
    record {
      listed = get_or c.args.ends.now c.args.top [];
      told = slice_get-get_or c.args.ends.now c.args.top [] within;
      count = c.index-count.result.now;
      taken = at_read old.taken.items c.args.top c.index-count.result.now c.index-count.result.now (omega (arith, inside, size, counts)) c.index-count.ensures refl;
      all = subst (λ (list : List ℕ). length list ≤ c.index-count.result.now) listed c.if-count-listed.false;
    }
