use Rattle.std.proofs.Common.{[], List, Option, refl, subst, sym, take, ◌+◌}
use Rattle.std.proofs.lemmas.List.{take_all}
use Rattle.std.proofs.lemmas.Option.{slice_get_read}
use Rattle.graphs.specs.declared.arrow_cycles.arrow.Arrow.{Arrow}
use Rattle.csdl_names.specs.declared.csdl_lists.raw.RawAssociationSet.{RawAssociationSet}
use Rattle.csdl_associations.specs.csdl_association_sets.Told.{AreArrowsOf, IsArrowIn}
use Rattle.csdl_associations.proofs.csdl_constraints.Beside.{beside_more, beside_start}
use Rattle.csdl_associations.proofs.csdl_association_sets.set_arrows.arrows_of.Goals as goal

pub loop-set-init : goal.loop-set-init
loop-set-init c =
    let Made : List (Option Arrow) → Type 0 = λ arrows. AreArrowsOf c.args.constraints.now [] arrows in
    subst Made (sym c.new-arrows.ensures.items) (beside_start (IsArrowIn c.args.constraints.now))

pub loop-set-preserved : goal.loop-set-preserved
loop-set-preserved c =
    let model = c.args.constraints.now in
    let sets = c.as_slice-set-items.result.now in
    let i = c.loop-set.set-index in
    let Made : List (Option Arrow) → Type 0 = λ arrows. AreArrowsOf model (take (i + 1) sets) arrows in
    subst Made (sym c.in_ok-push.ensures.items) (beside_more (IsArrowIn model) sets i c.loop-set.arrows.items c.set-item.result c.arrow_of.result
    (slice_get_read _ _ i _ refl c.loop-set-test.true c.set-item.is) c.loop-set.invariant c.arrow_of.ensures)

pub returns : goal.returns
returns c =
    let Made : List RawAssociationSet → Type 0 = λ sets. AreArrowsOf c.args.constraints.now sets c.loop-set.arrows.items in
    subst Made c.as_slice-set-items.ensures.items
    (subst Made (take_all c.loop-set.set-index c.as_slice-set-items.result.now c.loop-set-test.false) c.loop-set.invariant)
