use Rattle.msl_rules.proofs.msl_lists.Ends.{before_is}
use Rattle.msl_rules.proofs.msl_lists.picks.rest_before.Goals as goal

pub returns : goal.returns
returns c = before_is c.args.end.now c.args.text.now c.strip_suffix.result c.strip_suffix.ensures.cases
