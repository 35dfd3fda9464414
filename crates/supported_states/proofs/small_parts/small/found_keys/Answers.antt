use Rattle.std.proofs.Common.{List, length, arith, refl, subst, ◌∙◌}
use Rattle.std.proofs.lemmas.Option.{slice_get_read}
use Rattle.emc_base.specs.Lists.{At}
use Rattle.population.specs.declared.placed.PlacedKey.{PlacedKey}
use Rattle.supported_states.specs.small_parts.Small.{Finds}
use Rattle.supported_states.specs.declared.small_parts.small.Found.{Found}
use Rattle.supported_states.proofs.small_parts.Walking.{few_found, found_none, walk_begins, walk_ends, walk_on}
use Rattle.supported_states.proofs.small_parts.small.found_keys.Goals as goal

pub loop-at-init : goal.loop-at-init
loop-at-init c =
    let empty : Found = record { keys = c.new.result; spots = c.new-2.result } in
    walk_begins c.args.model.now c.args.row c.args.ones.now c.requires c.args.roots.now empty c.add_all.new.found c.new.ensures.items
    (c.in_ok-add_all.ensures (found_none empty c.new.ensures.items c.new-2.ensures.empty))

pub loop-at-smaller : goal.loop-at-smaller
loop-at-smaller c =
    let found = c.loop-at.found in
    let few = few_found c.args.model.now c.args.row c.args.ones.now c.requires c.args.roots.now found c.loop-at.at c.loop-at.invariant in
    let long = c.loop-at-test.true in
    let size = c.len.ensures in
    let same = found.keys.ok.0 in
    omega (arith, few, long, size, same)

pub loop-at-preserved : goal.loop-at-preserved
loop-at-preserved c =
    let model = c.args.model.now in
    let found = c.loop-at.found in
    let from = c.index.result.now in
    let after = c.add_all-in-loop-at.new.found in
    let long = c.loop-at-test.true in
    let size = c.len.ensures in
    let same = found.keys.ok.0 in
    let here : At found.keys.items c.loop-at.at from = slice_get_read found.keys.items (length found.keys.items) c.loop-at.at from refl (omega (arith, long, size, same)) c.index.ensures in
    let Finds_ : List PlacedKey → Type 0 = λ keys. Finds keys found after in
    walk_on model c.args.row c.args.ones.now c.requires c.args.roots.now found c.loop-at.at c.loop-at.invariant after from here
    (subst Finds_ (c.as_slice.ensures.items ∙ c.in_ok-needs.ensures) (c.in_ok-add_all-2.ensures c.loop-at.invariant.are_found))

pub returns : goal.returns
returns c =
    let found = c.loop-at.found in
    let end = c.loop-at-test.false in
    let size = c.len.ensures in
    let same = found.keys.ok.0 in
    walk_ends c.args.model.now c.args.row c.args.ones.now c.requires c.args.roots.now found c.loop-at.at c.loop-at.invariant (omega (arith, end, size, same))
