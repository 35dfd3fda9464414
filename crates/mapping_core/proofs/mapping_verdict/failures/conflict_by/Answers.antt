use Rattle.std.proofs.Common.{◌≡◌, inl, inr, Option, Some, ◌∙◌}
use Rattle.std.proofs.lemmas.Result.{IfOk-weaker}
use Rattle.round_trip.specs.Words.{AssocId}
use Rattle.region_states.specs.conflicts.Conflicts.{IsLinkConflictAt}
use Rattle.region_states.specs.declared.conflicts.conflict.Conflict.{Conflict}
use Rattle.region_states.specs.region_basis.BasisOf.{basis_of}
use Rattle.failure_laws.specs.Facts.{IsSo}
use Rattle.mapping_core.specs.mapping_verdict.Conflicts.{IsSomeConflict}
use Rattle.mapping_core.proofs.mapping_verdict.failures.conflict_by.Goals as goal

pub returns-in-Some-clause-told : goal.returns-in-Some-clause-told
returns-in-Some-clause-told c = λ conflict same. inl (c.in_ok-conflict.ensures.told conflict (c.in-Some.is ∙ same))

pub returns-clause-told : goal.returns-clause-told
returns-clause-told c =
    let basis = basis_of c.args.parts.now in
    IfOk-weaker c.conflict_of_links.result
    (λ (found : Option Conflict). (one : Conflict) → found ≡ Some one → (a : AssocId) × IsLinkConflictAt basis a c.args.kind one × IsSo basis one)
    (λ (found : Option Conflict). (one : Conflict) → found ≡ Some one → IsSomeConflict basis c.args.kind one)
    (λ found told one same. inr (told one same)) c.conflict_of_links.ensures.told
