use Rattle.std.proofs.lemmas.Result.{IfOk-weaker}
use Rattle.cells.specs.Parts.{schema_in}
use Rattle.region_states.specs.region_basis.BasisOf.{basis_of}
use Rattle.witness_state.specs.Failures.{IsFailureOf}
use Rattle.dangling_states.specs.Referring.{IsShownOfKey}
use Rattle.dangling_states.proofs.Becomes.{becomes, no_clash}
use Rattle.dangling_states.proofs.failures.dangling_failure.Goals as goal

pub returns-clause-failure : goal.returns-clause-failure
returns-clause-failure c =
    let parts = c.args.parts.now in
    let told = c.args.told.now in
    let law = c.dangling_keys_are_decided.ensures.fails (basis_of parts) (no_clash parts told c.requires) told c.requires.dangling in
    IfOk-weaker c.shown_of.result (IsShownOfKey (basis_of parts) told) (IsFailureOf (schema_in parts)) (λ failure shown. becomes parts told c.requires law failure shown) c.shown_of.ensures
