use Rattle.std.proofs.Common.{◌≡◌, ◌<◌, ℕ, List, take, length, get_or, set, sym, subst, arith}
use Rattle.std.proofs.lemmas.List.{take_more}
use Rattle.groupings.specs.linked_places.Joinings.{AreNumbered}
use Rattle.groupings.proofs.linked_places.Numbering.{one_numbered}
use Rattle.groupings.proofs.linked_places.joining.renumber.Goals as goal

pub loop-place-preserved : goal.loop-place-preserved
loop-place-preserved c =
    let places = c.args.places.now in
    let n = c.loop-place.place-index in
    let place = get_or places n 0 in
    let numbers = c.loop-place.numbers.items in
    let inside : place < length c.args.numbers.now.items = c.requires n 0 c.loop-place-test.true in
    let size : length numbers ≡ length c.args.numbers.now.items = c.loop-place.invariant.size in
    let P : List ℕ → Type 0 = λ xs. AreNumbered c.args.number xs c.args.numbers.now.items (set numbers place c.args.number) in
    subst P (sym (take_more places n 0 c.loop-place-test.true))
    (one_numbered c.args.number (take n places) c.args.numbers.now.items numbers place (omega (arith, inside, size)) c.loop-place.invariant)
