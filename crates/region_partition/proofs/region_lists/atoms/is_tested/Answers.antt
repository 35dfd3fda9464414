use Rattle.region_partition.proofs.region_lists.Members.{has_group}
use Rattle.region_partition.proofs.region_lists.atoms.is_tested.Goals as goal

pub group_of_prop-requires : goal.group_of_prop-requires
group_of_prop-requires c = has_group c.args.parts.now c.requires.parts c.args.property c.requires.within
