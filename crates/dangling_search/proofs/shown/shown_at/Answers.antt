use Rattle.std.proofs.Common.{⊎_elim, Option, sym, ap, ◌∙◌}
use Rattle.std.specs.Option.{option_map_or}
use Rattle.round_trip.specs.Words.{ColId, Null}
use Rattle.regions.specs.Settled.{known}
use Rattle.region_states.specs.region_basis.BasisOf.{basis_of}
use Rattle.dangling_keys.specs.Showing.{cell_at}
use Rattle.dangling_search.proofs.Lists.{none_beside_first, none_beside_second}
use Rattle.dangling_search.proofs.shown.shown_at.Goals as goal

pub returns : goal.returns
returns c =
    let rest = c.loop-to.to-iterator in
    let cell = cell_at (basis_of c.args.parts.now) c.args.look.of.now c.args.key.now.from in
    let shows = λ (found : Option ColId). option_map_or cell found (known Null) in
    ⊎_elim
    (λ first. sym (ap shows (none_beside_first c.args.col rest.a.rest.now rest.b.rest.now first.1.0)))
    (λ second. sym (ap shows (none_beside_second c.args.col rest.a.rest.now rest.b.rest.now second.1.0)))
    c.in-None.ensures.steps
    ∙ c.loop-to.invariant
