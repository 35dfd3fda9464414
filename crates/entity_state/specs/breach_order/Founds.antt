-- The order of breaches that were found.
-- Source: the rules of `Legal` and of `LegalTables` in `round_trip`, and the spots of their `Breaches`.
use Rattle.std.specs.declared.cmp.Ordering.{Ordering}
use Rattle.std.specs.Ordering.{nat_cmp, on, then_cmp}
use Rattle.std.specs.Cmp.Lexicographic.{slice_cmp}
use Rattle.entity_state.specs.declared.breach_order.found.Found.{Found}

-- by the number of the rule, and then by the spot
abbrev pub found_cmp : Found → Found → Ordering
found_cmp = then_cmp (on (λ found. found.rule) nat_cmp) (on (λ found. found.spot) (slice_cmp nat_cmp))
