use Rattle.std.proofs.Common.{◌+◌, ◌++◌, ◌∷◌, [], List, append_assoc, refl, ap, subst, ◌∙◌}
use Rattle.std.specs.List.{AllZip}
use Rattle.std.proofs.lemmas.List.{take_all}
use Rattle.std.proofs.lemmas.Option.{slice_get-get_or}
use Rattle.round_trip.specs.Words.{ColId, PropId}
use Rattle.query_views.specs.LinkKeys.{IsPairedWith}
use Rattle.query_views.proofs.Zips.{one_more_beside}
use Rattle.query_views.proofs.links.columns.add_columns.Goals as goal

pub loop-prop-preserved : goal.loop-prop-preserved
loop-prop-preserved c =
    let i = c.loop-prop.prop-index in
    let props : List PropId = c.args.props.now in
    let so_far = c.loop-prop.invariant in
    let more : List ColId = so_far.0 ++ c.column_of.result ∷ [] in (
      more,
      one_more_beside (IsPairedWith c.args.pairs.now) props i _ so_far.0 more c.column_of.result (slice_get-get_or props i _ c.loop-prop-test.true) so_far.1 refl c.column_of.ensures,
      c.in_ok-push.ensures.items ∙ ap (λ (list : List ColId). list ++ c.column_of.result ∷ []) so_far.2 ∙ append_assoc _ so_far.0 (c.column_of.result ∷ []),
    )

pub returns : goal.returns
returns c =
    let so_far = c.loop-prop.invariant in
    let Zipped : List PropId → Type 0 = λ props. AllZip (IsPairedWith c.args.pairs.now) props so_far.0 in
    (so_far.0, subst Zipped (take_all c.loop-prop.prop-index c.args.props.now c.loop-prop-test.false) so_far.1, so_far.2)
