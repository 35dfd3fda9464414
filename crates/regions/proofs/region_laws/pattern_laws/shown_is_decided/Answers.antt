use Rattle.regions.proofs.region_laws.pattern.rows.Shown.{link_shown, shown}
use Rattle.regions.proofs.region_laws.pattern_laws.shown_is_decided.Goals as goal

pub returns-clause-fragments : goal.returns-clause-fragments
returns-clause-fragments c = shown

pub returns-clause-links : goal.returns-clause-links
returns-clause-links c = link_shown
