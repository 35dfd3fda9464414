use Rattle.std.proofs.Common.{◌≡◌, ◌<◌, ℕ, List, take, length, get_or, set, sym, subst, arith}
use Rattle.std.proofs.lemmas.List.{take_more}
use Rattle.graphs.specs.arrow_cycles.Searches.{AreClosed}
use Rattle.graphs.specs.declared.arrow_cycles.search.Mark.TheVariants.{Closed}
use Rattle.graphs.proofs.arrow_cycles.Marking.{closed_more}
use Rattle.graphs.proofs.arrow_cycles.search.close_places.Goals as goal

pub loop-place-preserved : goal.loop-place-preserved
loop-place-preserved c =
    let places = c.args.places.now in
    let n = c.loop-place.place-index in
    let v = get_or places n 0 in
    let marks = c.loop-place.marks.items in
    let inside : v < length c.args.marks.now.items = c.requires n 0 c.loop-place-test.true in
    let size : length marks ≡ length c.args.marks.now.items = c.loop-place.invariant.size in
    let P : List ℕ → Type 0 = λ xs. AreClosed c.args.number xs c.args.marks.now.items (set marks v (Closed c.args.number)) in
    subst P (sym (take_more places n 0 c.loop-place-test.true))
    (closed_more c.args.number (take n places) c.args.marks.now.items marks v (omega (arith, inside, size)) c.loop-place.invariant)
