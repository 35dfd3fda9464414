use Rattle.std.proofs.Common.{◌≡◌, ◌-◌, List, length, None, slice_get, sym, ap, ◌∙◌}
use Rattle.graphs.specs.arrow_cycles.Ends.{GoesTo}
use Rattle.graphs.specs.declared.arrow_cycles.search.Group.{Group}
use Rattle.graphs.proofs.arrow_cycles.Marking.{no_path, nothing_at}
use Rattle.graphs.proofs.arrow_cycles.search.Search.finish.Goals as goal

pub returns-clause-empty : goal.returns-clause-empty
returns-clause-empty c =
    let now = c.loop-group.self in
    let none : slice_get now.groups.items (length now.groups.items - 1) ≡ None =
    ap (λ (xs : List Group). slice_get xs (length xs - 1)) (sym c.as_slice.ensures.value)
    ∙ sym c.last.ensures.value ∙ sym c.copied.ensures ∙ c.in_default.is in
    nothing_at now.path.items
    (no_path (GoesTo c.args.ends.now) now.marks.items now.path.items now.groups.items now.pending.items (length now.components.items) c.loop-group.invariant.search.1 none)
