use Rattle.std.proofs.Common.{inl}
use Rattle.region_states.specs.region_basis.BasisOf.{basis_of}
use Rattle.region_states.proofs.region_basis.Bases.{basis_is}
use Rattle.region_states.specs.conflicts.Conflicts.{IsConflictAt}
use Rattle.region_states.specs.conflicts.There.{FailsThere}
use Rattle.conflict_laws.proofs.Exact.{exact}
use Rattle.containment.proofs.Exact.{found_exactly, found_so}
use Rattle.containment.proofs.first.first_conflict.Goals as goal

pub returns-clause-exact : goal.returns-clause-exact
returns-clause-exact c before =
    let parts = c.args.parts.now in
    found_exactly (IsConflictAt (basis_of parts) c.args.set c.args.kind) (FailsThere (basis_of parts) c.args.set c.args.kind) c.conflict_of.result c.conflict_of.ensures.told c.conflict_of.ensures.free
    (exact (basis_of parts) (basis_is parts c.requires.parts) c.requires.parts.limits c.args.kind before c.args.set)

pub returns-clause-so : goal.returns-clause-so
returns-clause-so c before =
    let basis = basis_of c.args.parts.now in
    found_so c.args.parts.now c.requires.parts c.args.kind before (IsConflictAt basis c.args.set c.args.kind)
    (λ conflict at. (at.of_kind, inl (c.args.set, at.of_set), at.holds)) c.conflict_of.result c.conflict_of.ensures.told
