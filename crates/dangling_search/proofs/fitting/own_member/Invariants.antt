use Rattle.std.proofs.Common.{◌≡◌, Some, map, take}
use Rattle.regions.specs.declared.pattern.Symbol.TheVariants as symbol
use Rattle.dangling_search.proofs.fitting.own_member.Given as goal

-- the symbols of the properties so far have come
abbrev pub invariant-loop-prop : goal.invariant-loop-prop
invariant-loop-prop l = l.key ≡ map (λ p. Some (symbol.Prop p)) (take l.prop-index l.prop-items)
