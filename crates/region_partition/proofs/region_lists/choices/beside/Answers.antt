use Rattle.std.proofs.Common.{Some, ap, sym, ◌∙◌}
use Rattle.std.proofs.lemmas.Option.{slice_get-get_or}
use Rattle.region_partition.proofs.region_lists.Taken.{beside_taken}
use Rattle.region_partition.proofs.region_lists.choices.beside.Goals as goal

pub loop-first-preserved : goal.loop-first-preserved
loop-first-preserved g c =
    let items = c.as_slice-first-items.result.now in
    let i = c.loop-first.first-index in
    let first = c.first-item.result in
    let here = slice_get-get_or items i first c.loop-first-test.true ∙ ap Some (sym c.first-item.is) in
    beside_taken items c.args.seconds.now _ i first _ _ here c.as_slice.ensures.items c.loop-first.invariant c.in_ok-add_beside.ensures
