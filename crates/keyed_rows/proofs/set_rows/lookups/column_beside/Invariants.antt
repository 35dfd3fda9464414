use Rattle.std.proofs.Common.{◌≢◌, take, All}
use Rattle.keyed_rows.proofs.set_rows.lookups.column_beside.Given as goal

-- none that was passed is the property
abbrev pub invariant-loop-place : goal.invariant-loop-place
invariant-loop-place l = All (λ other. other ≢ l.prop) (take l.place l.props)
