use Rattle.std.proofs.Common.{arith, ◌∙◌}
use Rattle.round_trip.specs.soundness.mappings.Joined.{prop}
use Rattle.cells.specs.Parts.{schema_in}
use Rattle.region_partition.proofs.region_search.Constants.{group_has, none_past, told_by}
use Rattle.region_partition.proofs.region_search.atoms.constants_of.Goals as goal

-- there is no such property
pub returns-then-property-len : goal.returns-then-property-len
returns-then-property-len c =
    let size = c.len.ensures.count in
    let end = c.if-property-len.true in
    none_past (schema_in c.args.parts.now) c.args.parts.now.cells.now.groups c.requires.cells.groups c.args.property (omega (arith, size, end))

pub group_of_prop-group-requires : goal.group_of_prop-group-requires
group_of_prop-group-requires c =
    let size = c.len.ensures.count in
    let within = c.if-property-len.false in
    c.requires.cells.groups.some (prop c.args.property) (omega (arith, size, within))

pub constants-requires : goal.constants-requires
constants-requires c =
    group_has (schema_in c.args.parts.now) c.args.parts.now.cells.now.groups c.requires.cells.groups c.args.property c.group_of_prop-group.result c.group_of_prop-group.ensures

pub returns : goal.returns
returns c =
    c.as_slice.ensures.items
    ∙ told_by (schema_in c.args.parts.now) c.args.parts.now.cells.now.groups c.requires.cells.groups c.args.property c.group_of_prop-group.result c.constants.result.now
    c.group_of_prop-group.ensures c.constants.ensures
