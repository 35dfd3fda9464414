use Rattle.emc_base.specs.OrderLaws.{key_cmp_apart, key_cmp_total, value_cmp_apart, value_cmp_total}
use Rattle.emc_base.proofs.order.order_is_total.Goals as goal

pub returns-clause-values : goal.returns-clause-values
returns-clause-values c = value_cmp_total

pub returns-clause-values_apart : goal.returns-clause-values_apart
returns-clause-values_apart c = value_cmp_apart

pub returns-clause-keys : goal.returns-clause-keys
returns-clause-keys c = key_cmp_total

pub returns-clause-keys_apart : goal.returns-clause-keys_apart
returns-clause-keys_apart c = key_cmp_apart
