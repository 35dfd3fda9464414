use Rattle.std.proofs.Common.{◌≡◌, ℕ, ◌≤◌, List, length, refl, ◌∙◌, ap, sym, subst}
use Rattle.std.specs.Prelude.{slice_get}
use Rattle.std.proofs.lemmas.Option.{slice_get_read}
use Rattle.round_trip.specs.Words.{Prop}
use Rattle.schema_names.specs.OwnProps.{HaveNoProps}
use Rattle.schema_names.proofs.Declared.{known_all, known_more, known_none}
use Rattle.schema_names.proofs.own_props.own_props_of.Goals as goal

pub loop-place-preserved : goal.loop-place-preserved
loop-place-preserved c =
    let read = slice_get_read _ _ c.loop-place.place _ refl c.loop-place-test.true c.prop-item.is in
    let here = ap (λ (props : List Prop). slice_get props c.loop-place.place) (sym c.as_slice-prop-items.ensures.items) ∙ read in
    known_more c.args.model.now c.loop-place.place c.prop-item.result c.loop-place.own.items c.note_prop.new.own.items here c.loop-place.invariant c.in_ok-note_prop.ensures

pub loop-place-init : goal.loop-place-init
loop-place-init c =
    let own = c.in_ok-own.own.items in
    let Nothing : ℕ → Type 0 = λ many. HaveNoProps many own in
    known_none c.args.model.now own (subst Nothing c.len.ensures.count c.in_ok-own.ensures)

pub returns : goal.returns
returns c =
    let n = c.loop-place.place in
    let Passed : ℕ → Type 0 = λ many. many ≤ n in
    let size : length c.as_slice-prop-items.result.now ≡ length c.args.model.now.props = ap length c.as_slice-prop-items.ensures.items in
    let passed : length c.args.model.now.props ≤ n = subst Passed size c.loop-place-test.false in
    known_all c.args.model.now n c.loop-place.own.items passed c.loop-place.invariant
