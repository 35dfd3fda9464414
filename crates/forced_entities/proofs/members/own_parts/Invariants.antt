use Rattle.std.proofs.Common.{◌≡◌, Some, map, take}
use Rattle.regions.specs.declared.pattern.Symbol.TheVariants as symbol
use Rattle.forced_entities.proofs.members.own_parts.Given as goal

-- the symbols of the properties so far have come
abbrev pub invariant-loop-prop : goal.invariant-loop-prop
invariant-loop-prop l = l.told.items ≡ map (λ p. Some (symbol.Prop p)) (take l.prop-index l.props)
