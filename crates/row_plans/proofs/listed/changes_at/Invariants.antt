use Rattle.std.proofs.Common.{take}
use Rattle.row_orders.specs.Alterations.{AreChangesAt}
use Rattle.row_plans.proofs.listed.changes_at.Given as goal

-- the changes at the places so far
abbrev pub invariant-loop-place : goal.invariant-loop-place
invariant-loop-place l = AreChangesAt l.store l.alterations (take l.place-index l.places) l.changes
