use Rattle.schema_laws.proofs.short_values.Fitting.{dependent_takes, key_takes}
use Rattle.schema_laws.proofs.short_values.short_values_fit.Goals as goal

pub returns-clause-keys : goal.returns-clause-keys
returns-clause-keys c = key_takes

pub returns-clause-dependent : goal.returns-clause-dependent
returns-clause-dependent c = dependent_takes
