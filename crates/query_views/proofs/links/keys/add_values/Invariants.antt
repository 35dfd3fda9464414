use Rattle.std.proofs.Common.{◌≡◌, ◌++◌, take}
use Rattle.query_views.specs.Lent.{shown_values}
use Rattle.query_views.proofs.links.keys.add_values.Given as goal

-- the values so far have come
abbrev pub invariant-loop-value : goal.invariant-loop-value
invariant-loop-value l = shown_values l.key.items ≡ shown_values l.initial.key.items ++ shown_values (take l.value-index l.values)
