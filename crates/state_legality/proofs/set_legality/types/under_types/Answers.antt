use Rattle.std.proofs.Common.{◌≡◌, List, length, get_or, replicate, Bool, false, ap, sym, subst, ◌∙◌}
use Rattle.std.proofs.lemmas.Option.{slice_get-get_or}
use Rattle.round_trip.specs.Words.{TypeId}
use Rattle.edm_types.specs.Forest.{IsSubtree}
use Rattle.edm_types.specs.Marks.{AddsMarks}
use Rattle.schema_laws.proofs.sound_forests.Whole.{sound_holds}
use Rattle.state_legality.proofs.set_legality.Marking.{HasPlace, marks_all, marks_more, marks_none}
use Rattle.state_legality.proofs.set_legality.types.under_types.Goals as goal

pub subtree-requires-clause-whole : goal.subtree-requires-clause-whole
subtree-requires-clause-whole c = sound_holds c.args.model.now c.requires

pub loop-ty-init : goal.loop-ty-init
loop-ty-init c =
    let count = length c.args.model.now.types in
    let types = c.as_slice-list.result.now in
    let first : c.in_ok-marks.marks.items ≡ replicate count false = c.in_ok-marks.ensures.items_if_clones_equal (λ y is. is) ∙ ap (λ n. replicate n false) c.len.ensures.count in
    let P : List Bool → Type 0 = λ marks. AddsMarks (HasPlace types 0) (replicate count false) marks in
    subst P (sym first) (marks_none types (replicate count false))

pub loop-ty-preserved : goal.loop-ty-preserved
loop-ty-preserved c =
    let types = c.as_slice-list.result.now in
    let n = c.loop-ty.ty-index in
    let nil : TypeId = record { index = 0 } in
    marks_more types n (get_or types n nil) (replicate (length c.args.model.now.types) false) c.loop-ty.marks.items c.mark.new.marks.items
    (slice_get-get_or types n nil c.loop-ty-test.true) c.loop-ty.invariant c.mark.ensures

pub returns : goal.returns
returns c =
    let model = c.args.model.now in
    let P : List TypeId → Type 0 = λ list. IsSubtree model c.args.element list in
    marks_all c.as_slice-list.result.now model c.args.element (subst P (sym c.as_slice-list.ensures.items) c.in_ok-types.ensures) c.loop-ty.ty-index c.loop-ty.marks.items
    c.loop-ty-test.false c.loop-ty.invariant
