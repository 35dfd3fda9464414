use Rattle.std.proofs.Common.{arith}
use Rattle.std.proofs.lemmas.Map.Text.{text_keys}
use Rattle.schema_names.proofs.own_props.OwnProps.note.Goals as goal

pub returns : goal.returns
returns c = λ other. grind (arith, text_keys)
