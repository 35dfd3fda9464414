use Rattle.std.proofs.Common.{take}
use Rattle.entity_changes.specs.Changes.{after}
use Rattle.entity_changes.specs.Refusals.{AreAccepted}
use Rattle.entity_changes.specs.making.Standing.{TellsStanding}
use Rattle.entity_changes.proofs.making.refusals.first_refused.Given as goal

-- none of the changes so far is refused, and what stands after them is known
abbrev pub invariant-loop-place : goal.invariant-loop-place
invariant-loop-place l = AreAccepted l.model l.state (take l.place l.changes) × TellsStanding l.model (after l.model l.state (take l.place l.changes)) l.standing
