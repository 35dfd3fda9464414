use Rattle.region_partition.proofs.region_lists.Members.{has_constants, has_group}
use Rattle.region_partition.proofs.region_lists.atoms.constants_of.Goals as goal

pub group_of_prop-requires : goal.group_of_prop-requires
group_of_prop-requires c = has_group c.args.parts.now c.requires.parts c.args.property c.requires.within

pub constants-requires : goal.constants-requires
constants-requires c = has_constants c.args.parts.now c.requires.parts c.args.property c.group_of_prop.result c.group_of_prop.ensures
