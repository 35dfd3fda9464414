use Rattle.std.proofs.Common.{List, take, sym, subst, refl}
use Rattle.std.proofs.lemmas.Option.{slice_get_read}
use Rattle.emc_base.proofs.Loops.{take_item}
use Rattle.population.specs.declared.placed.PlacedKey.{PlacedKey}
use Rattle.supported_states.specs.small_parts.Small.{Finds}
use Rattle.supported_states.proofs.small_parts.Walking.{finds_next}
use Rattle.supported_states.proofs.small_parts.small.add_all.Goals as goal

pub loop-placed-preserved : goal.loop-placed-preserved
loop-placed-preserved c = λ found.
    (let i = c.loop-placed.placed-index in
    let keys = c.args.keys.now in
    let one = c.placed-item.result in
    let Found : List PlacedKey → Type 0 = λ some. Finds some c.args.found.now c.add.new.found in
    let so_far = c.loop-placed.invariant found in
    subst Found (sym (take_item keys i one (slice_get_read _ _ i _ refl c.loop-placed-test.true c.placed-item.is)))
    (finds_next (take i keys) one c.args.found.now c.loop-placed.found c.add.new.found so_far (c.in_ok-add.ensures so_far.are_found)))
