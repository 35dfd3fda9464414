use Rattle.schema_names.proofs.Declared.{AreKnown}
use Rattle.schema_names.proofs.own_props.own_props_of.Given as goal

-- the properties that were passed are known
abbrev pub invariant-loop-place : goal.invariant-loop-place
invariant-loop-place l = AreKnown l.model l.place l.own.items
