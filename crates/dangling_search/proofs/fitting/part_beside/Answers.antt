use Rattle.std.proofs.Common.{◌∙◌, ⊎_elim}
use Rattle.forced_entities.proofs.Beside.{none_beside_first, none_beside_second}
use Rattle.dangling_search.proofs.fitting.part_beside.Goals as goal

pub returns : goal.returns
returns c =
    let rest = c.loop-other.other-iterator in
    ⊎_elim
    (λ first. none_beside_first c.args.prop rest.a.rest.now rest.b.rest.now first.1.0)
    (λ second. none_beside_second c.args.prop rest.a.rest.now rest.b.rest.now second.1.0)
    c.in-None.ensures.steps
    ∙ c.loop-other.invariant
