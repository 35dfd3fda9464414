use Rattle.std.proofs.Common.{◌≡◌, ◌≢◌, ◌==◌, slice_index, arith}
use Rattle.msl_rules.proofs.condition_values.Parsed.{number_parsed}
use Rattle.msl_rules.proofs.condition_values.numbers.number_of.Goals as goal

pub returns : goal.returns
returns c =
    let byte : c.starts_with.result ≡ (slice_index c.args.text.now 0 == 43) = c.starts_with.ensures.byte (omega arith) (omega arith) (λ w o found. found) in
    let plain : slice_index c.args.text.now 0 ≢ 43 = λ plus. let is = rw plus at byte in cc in
    rw c.ok.ensures.value (number_parsed c.args.text.now c.parse.result c.parse.ensures.value.0 plain)
