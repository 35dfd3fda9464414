use Rattle.std.proofs.Common.{◌≡◌, take}
use Rattle.query_views.specs.Lent.{shown_values}
use Rattle.query_views.proofs.lending.copied_key.Given as goal

-- the values so far are copied
abbrev pub invariant-loop-value : goal.invariant-loop-value
invariant-loop-value l = l.key ≡ shown_values (take l.value-index l.values)
