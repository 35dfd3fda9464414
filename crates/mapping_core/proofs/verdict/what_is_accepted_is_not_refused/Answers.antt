use Rattle.std.proofs.Common.{None, Some}
use Rattle.std.proofs.lemmas.Option.{none-some}
use Rattle.mapping_core.proofs.NotRefused.{no_failure, no_rule, one_meaning}
use Rattle.mapping_core.proofs.verdict.what_is_accepted_is_not_refused.Goals as goal

pub returns-clause-meaning : goal.returns-clause-meaning
returns-clause-meaning c = one_meaning

pub returns-clause-rule : goal.returns-clause-rule
returns-clause-rule c = no_rule

pub returns-clause-limit : goal.returns-clause-limit
returns-clause-limit c = λ schema none fault first. none-some fault (c.one_limit.ensures schema None (Some fault) none first)

pub returns-clause-failure : goal.returns-clause-failure
returns-clause-failure c = no_failure
