use Rattle.std.proofs.Common.{ℕ, List, map, ap, ◌∙◌}
use Rattle.std.specs.List.{enumerate_from, flat_map}
use Rattle.round_trip.specs.Words.{Prop}
use Rattle.csdl_names.specs.declared.csdl_lists.raw.RawType.{RawType}
use Rattle.csdl_meaning.specs.Meaning.{prop_of}
use Rattle.emc_base.proofs.Turns.{all_placed, at_place, flat_more}
use Rattle.csdl_meaning.proofs.csdl_making.props.props_in.Goals as goal

pub loop-place-preserved : goal.loop-place-preserved
loop-place-preserved c =
    let raw = c.args.lookups.now.model.now in
    let f : ℕ × RawType → List Prop = λ place. map (prop_of raw place.0) place.1.props in
    c.in_ok-put_props.ensures
    ∙ flat_more f (enumerate_from 0 raw.types) c.loop-place.place (c.loop-place.place, c.ty-item.result) c.loop-place.props c.loop-place.invariant
    (at_place c.as_slice-ty-items.result.now raw.types c.loop-place.place c.ty-item.result c.as_slice-ty-items.ensures.items c.loop-place-test.true c.ty-item.is)

pub returns : goal.returns
returns c =
    let raw = c.args.lookups.now.model.now in
    let f : ℕ × RawType → List Prop = λ place. map (prop_of raw place.0) place.1.props in
    c.loop-place.invariant ∙ ap (flat_map f) (all_placed c.as_slice-ty-items.result.now raw.types c.loop-place.place c.as_slice-ty-items.ensures.items c.loop-place-test.false)
