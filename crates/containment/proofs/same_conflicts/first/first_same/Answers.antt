use Rattle.std.proofs.Common.{sym, subst, ◌∙◌}
use Rattle.std.proofs.lemmas.Result.{IfOk-weaker}
use Rattle.regions.specs.Regions.{regions_of}
use Rattle.region_states.specs.region_basis.BasisOf.{basis_of}
use Rattle.containment.specs.same_conflicts.Written.{AreWritten}
use Rattle.containment.proofs.same_conflicts.first.first_same.Goals as goal

pub same_among-found-requires-clause-written : goal.same_among-found-requires-clause-written
same_among-found-requires-clause-written c =
    let basis = basis_of c.args.parts.now in
    let written = c.in_ok-written.written.items in
    let are = subst (λ regions. AreWritten basis regions written) (c.as_slice.ensures.items ∙ c.requires.regions) c.in_ok-written.ensures in
    (c.args.set, subst (AreWritten basis (regions_of basis c.args.set)) (sym c.as_slice-2.ensures.value) are)

pub returns-clause-told : goal.returns-clause-told
returns-clause-told c =
    let basis = basis_of c.args.parts.now in
    let are = subst (λ regions. AreWritten basis regions c.in_ok-written.written.items) (c.as_slice.ensures.items ∙ c.requires.regions) c.in_ok-written.ensures in
    IfOk-weaker c.same_among-found.result _ _ (λ found told. told c.args.set (subst (AreWritten basis (regions_of basis c.args.set)) (sym c.as_slice-2.ensures.value) are)) c.same_among-found.ensures.told

pub returns-clause-free : goal.returns-clause-free
returns-clause-free c =
    let basis = basis_of c.args.parts.now in
    let are = subst (λ regions. AreWritten basis regions c.in_ok-written.written.items) (c.as_slice.ensures.items ∙ c.requires.regions) c.in_ok-written.ensures in
    IfOk-weaker c.same_among-found.result _ _ (λ found told. told c.args.set (subst (AreWritten basis (regions_of basis c.args.set)) (sym c.as_slice-2.ensures.value) are)) c.same_among-found.ensures.free
