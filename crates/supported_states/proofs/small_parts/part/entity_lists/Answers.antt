use Rattle.std.proofs.Common.{ℕ, List, [], map, ap, ◌++◌, ◌∷◌, ◌∙◌}
use Rattle.round_trip.specs.Words.{Entity}
use Rattle.supported_states.specs.small_parts.Sought.{sought_in}
use Rattle.supported_states.proofs.Turns.{joins-map, one_number}
use Rattle.supported_states.proofs.small_parts.part.entity_lists.Goals as goal

pub loop-index-preserved : goal.loop-index-preserved
loop-index-preserved c =
    let made : ℕ → List Entity = λ n. sought_in c.args.sought.now (record { index = n }) in
    one_number (map made) (joins-map made) c.loop-index.index [] c.loop-index.lists.items c.push.new.self.items c.loop-index.invariant
    (c.in_ok-push.ensures.items ∙ ap (λ list. c.loop-index.lists.items ++ list ∷ []) c.in_ok-entities_sought.ensures)
