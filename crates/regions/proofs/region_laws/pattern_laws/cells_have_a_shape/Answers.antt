use Rattle.regions.proofs.region_laws.pattern.types.Groups.{is_plain}
use Rattle.regions.proofs.region_laws.pattern.Keys.{end_cell, key_cell, owned_here}
use Rattle.regions.proofs.region_laws.pattern.Laws.{end_once, part_in_key, same_group, telling_tested, untested_once}
use Rattle.regions.proofs.region_laws.pattern_laws.cells_have_a_shape.Goals as goal

pub returns-clause-owned : goal.returns-clause-owned
returns-clause-owned c = owned_here

pub returns-clause-keys : goal.returns-clause-keys
returns-clause-keys c = key_cell

pub returns-clause-link_keys : goal.returns-clause-link_keys
returns-clause-link_keys c = end_cell

pub returns-clause-parts : goal.returns-clause-parts
returns-clause-parts c = part_in_key

pub returns-clause-ends : goal.returns-clause-ends
returns-clause-ends c = end_once

pub returns-clause-groups : goal.returns-clause-groups
returns-clause-groups c = same_group

pub returns-clause-tested : goal.returns-clause-tested
returns-clause-tested c = telling_tested

pub returns-clause-untested : goal.returns-clause-untested
returns-clause-untested c = untested_once

pub returns-clause-plain : goal.returns-clause-plain
returns-clause-plain c = is_plain
