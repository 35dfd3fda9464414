use Rattle.std.proofs.Common.{arith}
use Rattle.witness_state.proofs.region_values.Groups.{has_group, no_group}
use Rattle.witness_state.proofs.region_values.declared.group_of.Goals as goal

-- there is no such property
pub returns-then-property-len : goal.returns-then-property-len
returns-then-property-len c =
    let size = c.len.ensures.count in
    let end = c.if-property-len.true in
    no_group c.args.parts.now c.requires c.args.property (omega (arith, size, end))

pub group_of_prop-requires : goal.group_of_prop-requires
group_of_prop-requires c =
    let size = c.len.ensures.count in
    let within = c.if-property-len.false in
    has_group c.args.parts.now c.requires c.args.property (omega (arith, size, within))
