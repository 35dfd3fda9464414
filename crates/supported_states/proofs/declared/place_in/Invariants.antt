use Rattle.std.proofs.Common.{◌≡◌, ◌+◌, drop}
use Rattle.schema_laws.specs.short_values.Places.{place_in}
use Rattle.supported_states.proofs.declared.place_in.Given as goal

-- none of the properties so far is the one
abbrev pub invariant-loop-place : goal.invariant-loop-place
invariant-loop-place l = place_in l.property l.props ≡ l.place + place_in l.property (drop l.place l.props)
