use Rattle.std.proofs.Common.{◌++◌, List, ⊎_elim, append-nil, sym, ap, ◌∙◌}
use Rattle.round_trip.specs.Words.{Pair}
use Rattle.dangling_search.proofs.Lists.{no_pairs_first, no_pairs_second}
use Rattle.dangling_search.proofs.target.pairs_by.Goals as goal

pub returns : goal.returns
returns c =
    let rest = c.loop-col.col-iterator in
    let so_far : List Pair = c.loop-col.pairs in
    sym (append-nil so_far)
    ∙ ⊎_elim
    (λ first. ap (λ (more : List Pair). so_far ++ more) (sym (no_pairs_first rest.a.rest.now rest.b.rest.now first.1.0)))
    (λ second. ap (λ (more : List Pair). so_far ++ more) (sym (no_pairs_second rest.a.rest.now rest.b.rest.now second.1.0)))
    c.in-None.ensures.steps
    ∙ c.loop-col.invariant
