use Rattle.std.proofs.Common.{◌≡◌, map}
use Rattle.serde_json.specs.View.{view}
use Rattle.drill_documents.specs.Draws.{draw}
use Rattle.drill_documents.specs.Lists.{documents}
use Rattle.drill_documents.proofs.lists.documents.Given as goal

-- the draw of the last Id, and the documents so far
abbrev pub invariant-loop-before : goal.invariant-loop-before
invariant-loop-before l = (l.draw ≡ draw l.seed l.before) × (map view l.trees.items ≡ documents l.seed l.before)
