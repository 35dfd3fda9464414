use Rattle.std.proofs.Common.{◌≡◌, List, map, ◌∙◌}
use Rattle.std.proofs.lemmas.Result.{IfOk-weaker}
use Rattle.cells.specs.Parts.{schema_in}
use Rattle.round_trip.specs.Words.{PropId, Schema, Value, value_beside}
use Rattle.keyed_rows.specs.set_rows.Owning.{IsTableKey}
use Rattle.keyed_rows.proofs.set_rows.KeyOrder.{table_key}
use Rattle.keyed_rows.proofs.set_rows.owning.table_key.Goals as goal

pub returns : goal.returns
returns c =
    let schema : Schema = schema_in c.args.parts.now in
    let own = c.pairing-props.ensures in
    let props : List PropId = c.pairing-props.result.now in
    let Made : List Value → Type 0 = λ parts. parts ≡ map (λ prop. value_beside prop c.set_key.result.now c.as_slice.result.now) props in
    let IsKey : List Value → Type 0 = IsTableKey schema c.args.table c.args.set c.args.key.now in
    IfOk-weaker c.values_beside.result Made IsKey (λ parts is. table_key schema c.requires.parts.sound c.args.table c.args.set own.0 props c.args.key.now parts own.1
    (is ∙ (λ k. map (λ prop. value_beside prop (c.set_key.ensures k) (c.as_slice.ensures.items k)) props))) c.values_beside.ensures
