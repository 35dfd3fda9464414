use Rattle.std.proofs.Common.{◌≡◌, map}
use Rattle.serde_json.specs.View.{view}
use Rattle.drill_documents.specs.Draws.{draw}
use Rattle.drill_documents.specs.Lists.{renamings}
use Rattle.drill_documents.proofs.lists.renamings.Given as goal

-- the draw of the last Id, and the renamings so far
abbrev pub invariant-loop-before : goal.invariant-loop-before
invariant-loop-before l = (l.draw ≡ draw l.seed l.before) × (map view l.trees.items ≡ renamings l.seed l.before)
