use Rattle.std.proofs.lemmas.Result.{IfOk-weaker}
use Rattle.cells.specs.Parts.{schema_in}
use Rattle.region_states.specs.region_basis.BasisOf.{basis_of}
use Rattle.region_states.proofs.region_basis.Bases.{basis_is}
use Rattle.failure_laws.proofs.witness.Shown.{witness_fails}
use Rattle.witness_state.specs.Failures.{IsFailureOf}
use Rattle.witness_state.specs.Shown.{IsShownOf}
use Rattle.witness_state.proofs.told.Becomes.{becomes}
use Rattle.witness_state.proofs.failures.build.Goals as goal

pub returns-clause-failure : goal.returns-clause-failure
returns-clause-failure c =
    let basis = basis_of c.args.parts.now in
    let first = c.requires in
    let told = c.args.conflict.now in
    IfOk-weaker c.shown_of.result (IsShownOf basis told) (IsFailureOf (schema_in c.args.parts.now))
    (λ failure shown. becomes basis told first.earlier first.so
    (λ place at. witness_fails basis (basis_is c.args.parts.now first.are) first.are.limits told first.of_one first.so first.earlier place at) failure shown) c.shown_of.ensures
