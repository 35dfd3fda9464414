use Rattle.std.proofs.Common.{sym, ◌∙◌}
use Rattle.witness_state.proofs.region_values.Groups.{has_constants}
use Rattle.witness_state.proofs.region_values.declared.constants_of.Goals as goal

pub constants-requires : goal.constants-requires
constants-requires c = has_constants c.args.parts.now c.requires c.args.property c.in-Some.group (sym c.group_of.ensures ∙ c.in-Some.is)
