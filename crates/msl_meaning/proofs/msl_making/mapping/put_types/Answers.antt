use Rattle.std.proofs.Common.{◌++◌, ℕ, List, Option, ap, ◌∙◌}
use Rattle.std.specs.List.{enumerate_from, filter_map}
use Rattle.round_trip.specs.Words.{Fragment}
use Rattle.json_form.specs.Pointers.{pointer_of}
use Rattle.msl_rules.specs.declared.msl_lists.raw.RawFragment.{RawFragment}
use Rattle.emc_base.proofs.Turns.{all_placed, at_place}
use Rattle.msl_rules.specs.Sites.{fragment_place}
use Rattle.msl_meaning.specs.msl_making.Walk.{fragment_of}
use Rattle.msl_meaning.proofs.msl_making.Behind.{found_behind}
use Rattle.msl_meaning.proofs.msl_making.mapping.put_types.Goals as goal

pub loop-last-preserved : goal.loop-last-preserved
loop-last-preserved c =
    let names = c.args.names.now in
    let types = c.args.types.now in
    let made_of : List ℕ → Option Fragment = λ place. fragment_of names.model.now names.store.now c.args.set place types c.fragment-item.result in
    let h : ℕ × RawFragment → Option Fragment =
    λ k. fragment_of names.model.now names.store.now c.args.set (pointer_of (fragment_place c.args.places.0 c.args.places.1 k.0)) types k.1 in
    c.in_ok-put_found.ensures
    ∙ found_behind h c.args.made.now c.loop-last.made (enumerate_from 0 types.fragments) c.loop-last.last (c.loop-last.last, c.fragment-item.result) c.in_ok-fragment_of.field-0 c.loop-last.invariant
    (at_place c.as_slice-fragment-items.result.now types.fragments c.loop-last.last c.fragment-item.result c.as_slice-fragment-items.ensures.items c.loop-last-test.true c.fragment-item.is)
    (c.in_ok-fragment_of.ensures ∙ ap made_of c.in_ok-place.ensures)

pub returns : goal.returns
returns c =
    let names = c.args.names.now in
    let types = c.args.types.now in
    let h : ℕ × RawFragment → Option Fragment =
    λ k. fragment_of names.model.now names.store.now c.args.set (pointer_of (fragment_place c.args.places.0 c.args.places.1 k.0)) types k.1 in
    c.loop-last.invariant
    ∙ ap (λ items. c.args.made.now ++ filter_map h items) (all_placed c.as_slice-fragment-items.result.now types.fragments c.loop-last.last c.as_slice-fragment-items.ensures.items c.loop-last-test.false)
