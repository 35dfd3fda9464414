use Rattle.std.proofs.Common.{◌≡◌, ◌+◌, ◌-◌, ◌++◌, flat_map, suc, arith, sym, ap, ◌∙◌}
use Rattle.schema_laws.specs.state_demand.MadeTables.{distinct}
use Rattle.population.specs.Support.{free_keys, levels, same_placed, step_count, steps}
use Rattle.supported_states.proofs.Stepping.{first_turn, next_turn}
use Rattle.supported_states.proofs.levels.support.Goals as goal

pub loop-init : goal.loop-init
loop-init c =
    let model = c.args.model.now in
    let row = c.args.row in
    let given = c.args.given.now in
    let level = c.in_ok-level.level in
    let size = c.len-end.ensures.count in
    let steps_left : step_count model row ≡ c.len-end.result - 0 = omega (arith, size) in
    let is : level ≡ free_keys model row given (distinct same_placed c.args.wanted.now) =
    c.in_ok-level.ensures ∙ (λ k. free_keys model row (c.as_slice.ensures.items k) (distinct same_placed (c.as_slice-2.ensures.items k))) in
    first_turn model row given c.args.wanted.now level is
    ∙ (λ k. distinct same_placed (sym c.empty-all.ensures k ++ levels model row given (steps_left k) level))

pub loop-preserved : goal.loop-preserved
loop-preserved c =
    let model = c.args.model.now in
    let row = c.args.row in
    let given = c.args.given.now in
    let level = c.loop.level in
    let more = c.in_ok-level-2.level in
    let below = c.loop-test.true in
    let left = c.len-end.result - c.loop.counter in
    let n = c.len-end.result - (c.loop.counter + 1) in
    let one : left ≡ suc n = omega (arith, below) in
    let is : more ≡ free_keys model row given (distinct same_placed (flat_map (steps model row) level)) =
    c.in_ok-level-2.ensures ∙ (λ k. free_keys model row (c.as_slice-in-loop-2.ensures.items k) (distinct same_placed (flat_map (steps model row) (c.as_slice-in-loop-3.ensures.items k)))) in
    c.loop.invariant
    ∙ next_turn model row given n left one c.loop.all level more is
    ∙ ap (λ all. distinct same_placed (all ++ levels model row given n more)) (sym (c.in_ok-append.ensures ∙ ap (λ keys. c.loop.all ++ keys) c.as_slice-in-loop.ensures.items))
