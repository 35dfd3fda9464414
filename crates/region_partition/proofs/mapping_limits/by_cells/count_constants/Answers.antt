use Rattle.emc_base.proofs.facts.Found.{some_found}
use Rattle.round_trip.specs.soundness.mappings.Joined.{prop}
use Rattle.member_groups.specs.MemberGroups.{constants_in}
use Rattle.region_partition.proofs.mapping_limits.by_cells.count_constants.Goals as goal

pub group_of_prop-group-requires : goal.group_of_prop-group-requires
group_of_prop-group-requires c = c.requires.told.groups.some (prop c.args.property) c.requires.within

pub constants-requires : goal.constants-requires
constants-requires c =
    let told = c.requires.told.groups.constants (prop c.args.property) c.group_of_prop-group.result c.group_of_prop-group.ensures in
    some_found (constants_in c.args.parts.now.cells.now.groups c.group_of_prop-group.result) told.0 told.1
