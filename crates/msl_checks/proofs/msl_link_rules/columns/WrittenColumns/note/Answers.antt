use Rattle.std.proofs.Common.{arith}
use Rattle.std.proofs.lemmas.Map.Text.{text_keys}
use Rattle.msl_checks.proofs.msl_link_rules.columns.WrittenColumns.note.Goals as goal

pub returns : goal.returns
returns c = λ col. grind (arith, text_keys)
