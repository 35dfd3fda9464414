use Rattle.std.proofs.Common.{List, [], ◌∷◌, ◌++◌, append_assoc, Option, Some, ap, ◌∙◌}
use Rattle.round_trip.specs.Words.{Value}
use Rattle.witness_state.specs.declared.region_values.changes.Change.{Change}
use Rattle.witness_state.proofs.region_values.clashes.add_both.Goals as goal

pub returns : goal.returns
returns c =
    let tried : List (Option Change) = c.args.tried.now.items in
    let to : Value → Option Change = λ value. Some (record { property = c.args.property; value = value }) in
    c.in_ok-push-2.ensures.items
    ∙ ap (λ list. list ++ to c.in_ok-other.other ∷ []) c.in_ok-push.ensures.items
    ∙ append_assoc tried (to c.in_ok-one.one ∷ []) (to c.in_ok-other.other ∷ [])
    ∙ (λ k. tried ++ to (c.in_ok-one.ensures k) ∷ to (c.in_ok-other.ensures k) ∷ [])
