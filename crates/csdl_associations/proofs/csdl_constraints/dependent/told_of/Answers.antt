use Rattle.std.proofs.Common.{◌+◌, List, Option, refl, sym, subst, take}
use Rattle.std.proofs.lemmas.List.{take_all}
use Rattle.std.proofs.lemmas.Option.{slice_get_read}
use Rattle.csdl_names.specs.declared.csdl_lists.raw.RawAssociation.{RawAssociation}
use Rattle.csdl_names.specs.csdl_lists.References.{names_in}
use Rattle.csdl_associations.specs.declared.csdl_constraints.dependent.Dependent.{Dependent}
use Rattle.csdl_associations.specs.csdl_constraints.Told.{AreToldOf, IsToldOf}
use Rattle.csdl_associations.proofs.csdl_constraints.Beside.{beside_more, beside_start}
use Rattle.csdl_associations.proofs.csdl_constraints.dependent.told_of.Goals as goal

pub loop-association-init : goal.loop-association-init
loop-association-init c =
    let model = c.args.sides.now.lookups.now.model.now in
    let P : List (Option Dependent) → Type 0 = λ told. AreToldOf (names_in model) model (take 0 c.args.associations.now) told in
    subst P (sym c.new-told.ensures.items) (beside_start (IsToldOf (names_in model) model))

pub loop-association-preserved : goal.loop-association-preserved
loop-association-preserved c =
    let model = c.args.sides.now.lookups.now.model.now in
    let n = c.loop-association.association-index in
    let P : List (Option Dependent) → Type 0 = λ told. AreToldOf (names_in model) model (take (n + 1) c.args.associations.now) told in
    let here = slice_get_read _ _ n _ refl c.loop-association-test.true c.association-item.is in
    subst P (sym c.in_ok-push.ensures.items)
    (beside_more (IsToldOf (names_in model) model) c.args.associations.now n c.loop-association.told.items c.association-item.result c.dependent_of.result
    here c.loop-association.invariant c.dependent_of.ensures)

pub returns : goal.returns
returns c =
    let model = c.args.sides.now.lookups.now.model.now in
    let P : List RawAssociation → Type 0 = λ associations. AreToldOf (names_in model) model associations c.loop-association.told.items in
    subst P (take_all c.loop-association.association-index c.args.associations.now c.loop-association-test.false) c.loop-association.invariant
