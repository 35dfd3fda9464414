-- The order of breaches is total.
use Rattle.std.specs.Cmp.{IsTotalOrder, nat_cmp_total, on_total, then_total}
use Rattle.std.specs.Cmp.Lexicographic.{nat_list_cmp_total}
use Rattle.entity_state.specs.breach_order.Founds.{found_cmp}

-- so it is, though it doesn't tell apart breaches of one rule at one spot
pub found_cmp_total : IsTotalOrder found_cmp
found_cmp_total = then_total (on_total (λ found. found.rule) nat_cmp_total) (on_total (λ found. found.spot) nat_list_cmp_total)
