use Rattle.std.proofs.Common.{[]}
use Rattle.layouts.proofs.rule_places.Known.{of_none}
use Rattle.layouts.proofs.rule_places.again.first_twice.Goals as goal

pub returns : goal.returns
returns g c = c.in_ok-found.ensures [] of_none
