use Rattle.std.proofs.Common.{◌+◌, List, [], refl, sym, subst, take}
use Rattle.std.proofs.lemmas.List.{take_all}
use Rattle.std.proofs.lemmas.List.Elements.{All-nil}
use Rattle.std.proofs.lemmas.Option.{slice_get_read}
use Rattle.region_states.specs.region_basis.BasisOf.{basis_of}
use Rattle.containment.specs.declared.same_conflicts.written.Written.{Written}
use Rattle.containment.specs.same_conflicts.Written.{AreWritten, IsWritten}
use Rattle.containment.proofs.same_conflicts.Beside.{written_more}
use Rattle.containment.proofs.same_conflicts.written.written_by.Goals as goal

pub loop-region-preserved : goal.loop-region-preserved
loop-region-preserved c =
    let basis = basis_of c.args.parts.now in
    let regions = c.args.regions.now in
    let i = c.loop-region.region-index in
    let region = c.region-item.result in
    let P : List Written → Type 0 = AreWritten basis (take (i + 1) regions) in
    let e = c.in_ok-push.ensures.items in
    subst P (sym e)
    (written_more basis regions i region (slice_get_read _ _ i _ refl c.loop-region-test.true c.region-item.is) c.loop-region.written.items c.loop-region.invariant
    _ refl c.in_ok-pattern.ensures)

pub loop-region-init : goal.loop-region-init
loop-region-init c =
    let basis = basis_of c.args.parts.now in
    let P : List Written → Type 0 = AreWritten basis [] in
    subst P (sym c.new-written.ensures.items) (record { of = refl; rows = All-nil (IsWritten basis) })

pub returns : goal.returns
returns c = subst (λ regions. AreWritten (basis_of c.args.parts.now) regions c.loop-region.written.items)
    (take_all c.loop-region.region-index c.args.regions.now c.loop-region-test.false) c.loop-region.invariant
