use Rattle.groupings.proofs.name_places.Prefixes.{rest_is}
use Rattle.groupings.proofs.name_places.fronts.rest_after.Goals as goal

pub returns : goal.returns
returns c = rest_is c.args.front.now c.args.text.now c.strip_prefix.result c.strip_prefix.ensures.cases
