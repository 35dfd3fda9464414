use Rattle.std.proofs.Common.{◌↔◌, List, Any, Contains, take}
use Rattle.round_trip.specs.Words.{AssocId, Link, SetId, Value}
use Rattle.entity_changes.specs.Touching.{TouchesEntity, TouchesLink}
use Rattle.entity_changes.specs.touched.Seen.{AreGathered}
use Rattle.entity_changes.proofs.touched.Touched.of.Given as goal

-- what the changes so far touch is gathered
abbrev pub invariant-loop-change : goal.invariant-loop-change
invariant-loop-change l = AreGathered l.gathered
    × ((one : SetId × List Value) → Contains l.gathered.entities.items one ↔ Any (λ some. TouchesEntity l.model l.cells some one) (take l.change-index l.changes))
    × ((one : AssocId × Link) → Contains l.gathered.links.items one ↔ Any (λ some. TouchesLink l.model l.cells some one) (take l.change-index l.changes))
