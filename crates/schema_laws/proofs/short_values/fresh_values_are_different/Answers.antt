use Rattle.std.proofs.Common.{refl}
use Rattle.schema_laws.proofs.short_values.Short.{fresh_same, fresh_short, fresh_sort}
use Rattle.schema_laws.proofs.short_values.Uses.{index_below, one_use}
use Rattle.schema_laws.proofs.short_values.fresh_values_are_different.Goals as goal

pub returns-clause-values : goal.returns-clause-values
returns-clause-values c = fresh_same

pub returns-clause-short : goal.returns-clause-short
returns-clause-short c = fresh_short

pub returns-clause-sort : goal.returns-clause-sort
returns-clause-sort c = fresh_sort

pub returns-clause-shown : goal.returns-clause-shown
returns-clause-shown c = (refl, refl, refl, refl)

pub returns-clause-below : goal.returns-clause-below
returns-clause-below c = index_below

pub returns-clause-indices : goal.returns-clause-indices
returns-clause-indices c = one_use
