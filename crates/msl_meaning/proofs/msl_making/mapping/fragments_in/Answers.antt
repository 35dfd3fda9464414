use Rattle.std.proofs.Common.{ℕ, List, sym, ap, ◌∙◌}
use Rattle.std.specs.List.{enumerate_from, filter_map, flat_map}
use Rattle.round_trip.specs.Words.{Fragment}
use Rattle.msl_rules.specs.declared.msl_lists.raw.RawSetMapping.{RawSetMapping}
use Rattle.emc_base.proofs.Turns.{all_placed, at_place, flat_more}
use Rattle.msl_rules.specs.MappingMeaning.{fragment_at}
use Rattle.msl_rules.specs.Sites.{sites_of_set}
use Rattle.msl_meaning.proofs.msl_making.Behind.{found_in_all}
use Rattle.msl_meaning.proofs.msl_making.mapping.fragments_in.Goals as goal

pub loop-place-preserved : goal.loop-place-preserved
loop-place-preserved c =
    let names = c.args.names.now in
    let sets = c.args.raw.now.sets in
    let f : ℕ × RawSetMapping → List Fragment = λ i. filter_map (fragment_at names.model.now names.store.now) (sites_of_set i.0 i.1) in
    c.in_ok-put_set.ensures
    ∙ flat_more f (enumerate_from 0 sets) c.loop-place.place (c.loop-place.place, c.set-item.result) c.loop-place.made c.loop-place.invariant
    (at_place c.as_slice-set-items.result.now sets c.loop-place.place c.set-item.result c.as_slice-set-items.ensures.items c.loop-place-test.true c.set-item.is)

pub returns : goal.returns
returns c =
    let names = c.args.names.now in
    let sets = c.args.raw.now.sets in
    let f : ℕ × RawSetMapping → List Fragment = λ i. filter_map (fragment_at names.model.now names.store.now) (sites_of_set i.0 i.1) in
    c.loop-place.invariant
    ∙ ap (flat_map f) (all_placed c.as_slice-set-items.result.now sets c.loop-place.place c.as_slice-set-items.ensures.items c.loop-place-test.false)
    ∙ sym (found_in_all (fragment_at names.model.now names.store.now) (λ i. sites_of_set i.0 i.1) (enumerate_from 0 sets))
