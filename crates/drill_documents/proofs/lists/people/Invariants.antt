use Rattle.std.proofs.Common.{◌≡◌, map}
use Rattle.serde_json.specs.View.{view}
use Rattle.drill_documents.specs.Draws.{draw}
use Rattle.drill_documents.specs.Lists.{people}
use Rattle.drill_documents.proofs.lists.people.Given as goal

-- the draw of the last Id, and the people so far
abbrev pub invariant-loop-before : goal.invariant-loop-before
invariant-loop-before l = (l.draw ≡ draw l.seed l.before) × (map view l.trees.items ≡ people l.seed l.before)
