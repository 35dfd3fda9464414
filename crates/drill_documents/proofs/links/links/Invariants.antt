use Rattle.std.proofs.Common.{◌≡◌, map}
use Rattle.serde_json.specs.View.{view}
use Rattle.drill_documents.specs.Draws.{draw}
use Rattle.drill_documents.specs.Lists.{last_employee, links}
use Rattle.drill_documents.proofs.links.links.Given as goal

-- the draw of the last Id, the last Employee, and the links so far
abbrev pub invariant-loop-before : goal.invariant-loop-before
invariant-loop-before l = (l.draw ≡ draw l.seed l.before) × (l.last ≡ last_employee l.seed l.before) × (map view l.trees.items ≡ links l.seed l.before)
