use Rattle.std.proofs.Common.{◌++◌, List, get_or, ap, ◌∙◌}
use Rattle.std.proofs.lemmas.Option.{slice_get-get_or}
use Rattle.round_trip.specs.Words.{ColId, PropId}
use Rattle.region_states.specs.region_basis.BasisOf.{basis_of}
use Rattle.forced_entities.proofs.Gathering.{gathers}
use Rattle.dangling_keys.specs.Showing.{cell_at, nullable_in}
use Rattle.dangling_search.proofs.shown.not_null_for.Goals as goal

pub loop-col-preserved : goal.loop-col-preserved
loop-col-preserved c =
    let f = λ (col : ColId). nullable_in (cell_at (basis_of c.args.parts.now) c.args.look.of.now c.args.key.now.from col) in
    let so_far : List PropId = c.loop-col.list in
    let items : List ColId = c.as_slice-col-items.result.now in
    let none : ColId = record { index = 0 } in
    let item : ColId = get_or items c.loop-col.col-index none in
    c.in_ok-put_found.ensures ∙ ap (λ (more : List PropId). so_far ++ more) c.nullable_at.ensures ∙ ap (λ (list : List PropId). list ++ f item) c.loop-col.invariant
    ∙ gathers f items c.loop-col.col-index item (slice_get-get_or items c.loop-col.col-index none c.loop-col-test.true)
