use Rattle.std.proofs.Common.{arith}
use Rattle.std.proofs.lemmas.Grind.{common_steps}
use Rattle.emc_base.proofs.value.in_domain.Goals as goal

pub returns-in-Whole-Byte : goal.returns-in-Whole-Byte
returns-in-Whole-Byte c = grind (arith, common_steps)

pub returns-in-Whole-Int16 : goal.returns-in-Whole-Int16
returns-in-Whole-Int16 c = grind (arith, common_steps)

pub returns-in-Whole-Int32 : goal.returns-in-Whole-Int32
returns-in-Whole-Int32 c = grind (arith, common_steps)

pub returns-in-Whole-Int64 : goal.returns-in-Whole-Int64
returns-in-Whole-Int64 c = grind (arith, common_steps)

pub returns-in-Whole-Enum : goal.returns-in-Whole-Enum
returns-in-Whole-Enum c = grind (arith, common_steps)

pub returns-in-Flag-Boolean : goal.returns-in-Flag-Boolean
returns-in-Flag-Boolean c = grind (arith, common_steps)

pub returns-in-Text-Text : goal.returns-in-Text-Text
returns-in-Text-Text c = grind (arith, common_steps)

pub returns-in-Bytes-Binary : goal.returns-in-Bytes-Binary
returns-in-Bytes-Binary c = grind (arith, common_steps)

pub returns-in_default : goal.returns-in_default
returns-in_default c = grind (arith, common_steps)

pub returns-in_default-2 : goal.returns-in_default-2
returns-in_default-2 c = grind (arith, common_steps)

pub returns-in_default-3 : goal.returns-in_default-3
returns-in_default-3 c = grind (arith, common_steps)

pub returns-in_default-4 : goal.returns-in_default-4
returns-in_default-4 c = grind (arith, common_steps)

pub returns-in_default-5 : goal.returns-in_default-5
returns-in_default-5 c = grind (arith, common_steps)
