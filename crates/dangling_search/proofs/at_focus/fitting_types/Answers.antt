use Rattle.std.proofs.Common.{◌≤◌, ◌∙◌, length, refl, ap}
use Rattle.std.specs.List.{filter_map}
use Rattle.std.proofs.lemmas.List.{take_all}
use Rattle.std.proofs.lemmas.Option.{slice_get_read}
use Rattle.emc_base.specs.Lists.{At}
use Rattle.emc_base.proofs.Turns.{found_more}
use Rattle.region_states.specs.region_basis.BasisOf.{basis_of}
use Rattle.dangling_search.specs.Found.{fitting_type}
use Rattle.dangling_search.proofs.at_focus.fitting_types.Goals as goal

pub loop-one-preserved : goal.loop-one-preserved
loop-one-preserved c =
    let i = c.loop-one.one-index in
    let h = fitting_type (basis_of c.args.parts.now) c.args.look.of.now c.args.key.now c.args.owned.now in
    let here : At c.args.list.now i c.one-item.result = slice_get_read _ _ i _ refl c.loop-one-test.true c.one-item.is in
    c.in_ok-put_found.ensures ∙ found_more h c.args.list.now i c.one-item.result c.loop-one.types c.fitting_type.result c.loop-one.invariant here c.fitting_type.ensures

pub returns : goal.returns
returns c =
    let i = c.loop-one.one-index in
    let past : length c.args.list.now ≤ i = c.loop-one-test.false in
    c.loop-one.invariant ∙ ap (filter_map (fitting_type (basis_of c.args.parts.now) c.args.look.of.now c.args.key.now c.args.owned.now)) (take_all i c.args.list.now past)
