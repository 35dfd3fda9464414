use Rattle.std.proofs.Common.{List, All, Contains, sym, subst}
use Rattle.std.specs.Global.{Vec}
use Rattle.std.specs.List.{AllZip}
use Rattle.std.proofs.lemmas.Result.{IfOk-weaker}
use Rattle.cells.specs.Parts.{schema_in}
use Rattle.round_trip.specs.Words.{PropId, ColId, Schema}
use Rattle.round_trip.specs.soundness.Lookups.{set_key}
use Rattle.keyed_rows.specs.set_rows.Owning.{IsBeside, IsKeyOrder}
use Rattle.keyed_rows.proofs.set_rows.KeyOrder.{in_order, whole}
use Rattle.keyed_rows.proofs.set_rows.owning.key_order.Goals as goal

pub columns_beside-requires-clause-among : goal.columns_beside-requires-clause-among
columns_beside-requires-clause-among c =
    let schema : Schema = schema_in c.args.parts.now in
    let own = c.pairing-props.ensures in
    subst (λ (key : List PropId). All (Contains c.pairing-props.result.now) key) (sym c.set_key.ensures)
    (subst (λ (props : List PropId). All (Contains props) (set_key schema.model c.args.set)) (sym own.1)
    (whole schema c.requires.parts.sound c.args.table c.args.set own.0).all)

pub returns : goal.returns
returns c =
    let schema : Schema = schema_in c.args.parts.now in
    let own = c.pairing-props.ensures in
    let props : List PropId = c.pairing-props.result.now in
    let cols : List ColId = c.key_columns-cols.result.now in
    let Zipped : Vec ColId → Type 0 = λ order. AllZip (IsBeside props cols) c.set_key.result.now order.items in
    let Ordered : Vec ColId → Type 0 = λ order. IsKeyOrder schema c.args.table c.args.set order.items in
    IfOk-weaker c.columns_beside.result Zipped Ordered (λ order zip. in_order schema c.requires.parts.sound c.args.table c.args.set own.0 props cols order.items own.1
    c.key_columns-cols.ensures (subst (λ (key : List PropId). AllZip (IsBeside props cols) key order.items) c.set_key.ensures zip)) c.columns_beside.ensures
