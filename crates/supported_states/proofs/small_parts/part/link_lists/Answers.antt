use Rattle.std.proofs.Common.{[], map, ap, ◌++◌, ◌∷◌, ◌∙◌}
use Rattle.supported_states.specs.small_parts.Parts.{links_at}
use Rattle.supported_states.proofs.Turns.{joins-map, one_number}
use Rattle.supported_states.proofs.small_parts.part.link_lists.Goals as goal

pub loop-index-preserved : goal.loop-index-preserved
loop-index-preserved c =
    let made = links_at c.args.sought.now in
    one_number (map made) (joins-map made) c.loop-index.index [] c.loop-index.lists.items c.push.new.self.items c.loop-index.invariant
    (c.in_ok-push.ensures.items ∙ ap (λ list. c.loop-index.lists.items ++ list ∷ []) c.in_ok-links_at.ensures)
