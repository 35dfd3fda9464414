-- The numbers of the rules of entity states.
-- Source: the rules of `Legal` in `round_trip`.
use Rattle.std.specs.Prelude.{ℕ}
use Rattle.entity_state.specs.declared.entity_values.rule.StateRule.{StateRule}
use Rattle.entity_state.specs.declared.entity_values.rule.StateRule.TheVariants as rule

-- the number that is printed after S
abbrev pub rule_number : StateRule → ℕ
rule_number rule.Type = 1
rule_number rule.Null = 2
rule_number rule.Domain = 3
rule_number rule.Key = 4
rule_number rule.End = 5
rule_number rule.Once = 6
rule_number rule.Count = 7
rule_number rule.Principal = 8
