use Rattle.std.proofs.Common.{Option, sym, subst}
use Rattle.round_trip.specs.Words.{Breach, IsLegal, Schema}
use Rattle.round_trip.specs.TablesAre.{HasNoClash}
use Rattle.state_legality.specs.Tells.{TellsState}
use Rattle.cells.specs.Parts.{schema_in}
use Rattle.mapping_core.specs.Accepted.{IsAccepted}
use Rattle.mapping_core.proofs.Stored.{clear, few_partners}
use Rattle.mapping_core.proofs.storing.store_all.Goals as goal

pub tables_of-requires-clause-few : goal.tables_of-requires-clause-few
tables_of-requires-clause-few c =
    let parts = c.parts-made.ensures in
    few_partners c.parts-made.result.parts parts.parts (subst IsAccepted (sym parts.lends) parts.accepted)

pub tables_of-requires-clause-clear : goal.tables_of-requires-clause-clear
tables_of-requires-clause-clear c =
    let compiled = c.args.compiled.now in
    let state = c.args.state.now in
    let parts = c.parts-made.ensures in
    let made = schema_in c.parts-made.result.parts in
    let Told : Option Breach → Type 0 = λ told. TellsState made.model state told in
    let legal : IsLegal made.model state = subst Told c.in_default.is c.in_ok-breach.ensures in
    let Legal : Schema → Type 0 = λ schema. IsLegal schema.model state in
    let Clear : Schema → Type 0 = λ schema. HasNoClash schema state in
    subst Clear (sym parts.lends) (clear compiled parts.accepted state (subst Legal parts.lends legal))
