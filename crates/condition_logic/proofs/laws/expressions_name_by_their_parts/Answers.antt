use Rattle.edm_types.specs.declared.mapping.CondOn.TheVariants as on
use Rattle.condition_logic.specs.Mentions.{IsComparison, IsOn, IsOnType}
use Rattle.condition_logic.proofs.Meaning.{mentions_by_parts}
use Rattle.condition_logic.proofs.laws.expressions_name_by_their_parts.Goals as goal

pub returns : goal.returns
returns c = record {
  names = λ what. mentions_by_parts (IsOn what);
  compares = λ prop value. mentions_by_parts (IsComparison (on.Prop prop) value);
  types = mentions_by_parts IsOnType;
}
