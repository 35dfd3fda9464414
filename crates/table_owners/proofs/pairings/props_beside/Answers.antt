use Rattle.std.proofs.Common.{◌≡◌, List, take, get_or, filter_map, sym, subst, ◌∙◌}
use Rattle.std.proofs.lemmas.List.{take_more}
use Rattle.round_trip.specs.Words.{ColId}
use Rattle.table_owners.specs.Sources.{prop_beside}
use Rattle.table_owners.proofs.lists.Found.{nothing_found, one_found}
use Rattle.table_owners.proofs.pairings.props_beside.Goals as goal
use Rattle.table_owners.proofs.pairings.props_beside.Goals.{in-Some+in_ok-push, in_default}

pub loop-col-preserved : goal.loop-col-preserved
loop-col-preserved c =
    let key = c.args.key.now in
    let n = c.loop-col.col-index in
    let nil : ColId = record { index = 0 } in
    let beside = prop_beside c.args.pairs.now in
    let P : List ColId → Type 0 = λ cols. c.match-prop_beside.props ≡ filter_map beside cols in
    subst P (sym (take_more key n nil c.loop-col-test.true)) (elim c.match-prop_beside.branch [
      | in-Some+in_ok-push w ↦ w.props-is ∙ w.in_ok-push.ensures.ok
          ∙ one_found beside (take n key) (get_or key n nil) c.loop-col.props c.loop-col.invariant w.in-Some.prop (sym c.prop_beside.ensures ∙ w.in-Some.is)
      | in_default w ↦ w.props-is ∙ nothing_found beside (take n key) (get_or key n nil) c.loop-col.props c.loop-col.invariant (sym c.prop_beside.ensures ∙ w.in_default.is)
    ])
