use Rattle.std.proofs.Common.{inr}
use Rattle.region_states.specs.region_basis.BasisOf.{basis_of}
use Rattle.region_states.specs.conflicts.Conflicts.{IsLinkConflictAt}
use Rattle.region_states.specs.conflicts.There.{LinksFailThere}
use Rattle.containment.proofs.Exact.{found_exactly, found_so}
use Rattle.containment.proofs.links.first_link_conflict.Goals as goal

pub returns-clause-exact : goal.returns-clause-exact
returns-clause-exact c before =
    let parts = c.args.parts.now in
    let basis = basis_of parts in
    found_exactly (IsLinkConflictAt basis c.args.assoc c.args.kind) (LinksFailThere basis c.args.assoc c.args.kind) c.conflict_of.result c.conflict_of.ensures.told c.conflict_of.ensures.free
    (c.link_conflicts_are_exact.ensures.exact basis (c.parts_are_a_basis.ensures.basis parts c.requires.parts) c.requires.parts.limits c.args.kind before c.args.assoc)

pub returns-clause-so : goal.returns-clause-so
returns-clause-so c before =
    let basis = basis_of c.args.parts.now in
    found_so c.args.parts.now c.requires.parts c.args.kind before (IsLinkConflictAt basis c.args.assoc c.args.kind)
    (λ conflict at. (at.of_kind, inr (c.args.assoc, at.of_links), at.holds)) c.conflict_of.result c.conflict_of.ensures.told
