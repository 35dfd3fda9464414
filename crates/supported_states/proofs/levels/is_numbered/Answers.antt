use Rattle.std.proofs.Common.{◌≡◌, ℕ, List, true, false, arith, map, sym, ap, ◌∙◌}
use Rattle.std.specs.List.{list_any}
use Rattle.round_trip.specs.Words.{Value}
use Rattle.schema_laws.specs.short_values.Numbers.{numbers_from}
use Rattle.schema_laws.specs.state_demand.Selecting.{same_key}
use Rattle.population.specs.Numbered.{number_count, numbered_key}
use Rattle.supported_states.proofs.Lists.{no_number, number_found}
use Rattle.supported_states.proofs.levels.is_numbered.Goals as goal

pub returns-then-eq : goal.returns-then-eq
returns-then-eq c =
    let placed = c.args.placed.now in
    let made : ℕ → List Value = numbered_key c.args.model.now c.args.row placed.set in
    let count = number_count c.args.model.now in
    let end = c.in_ok-number-end.ensures in
    let below = c.loop-number-test.true in
    let same : same_key placed.key (made c.loop-number.number) ≡ true = ap (same_key placed.key) (sym c.in_ok-numbered_key.ensures) ∙ sym c.if-eq.ensures in
    sym (number_found (same_key placed.key) made count c.loop-number.number (omega (arith, end, below)) same)

pub loop-number-preserved : goal.loop-number-preserved
loop-number-preserved c =
    let placed = c.args.placed.now in
    let made : ℕ → List Value = numbered_key c.args.model.now c.args.row placed.set in
    let other : same_key placed.key (made c.loop-number.number) ≡ false = ap (same_key placed.key) (sym c.in_ok-numbered_key.ensures) ∙ sym c.if-eq.ensures in
    no_number (same_key placed.key) made c.loop-number.number c.loop-number.invariant other

pub returns : goal.returns
returns c =
    let placed = c.args.placed.now in
    let made : ℕ → List Value = numbered_key c.args.model.now c.args.row placed.set in
    let end = c.in_ok-number-end.ensures in
    let up = c.loop-number.auto.number-end in
    let down = c.loop-number-test.false in
    let same : c.loop-number.number ≡ number_count c.args.model.now = omega (arith, end, up, down) in
    sym (ap (λ n. list_any (same_key placed.key) (map made (numbers_from 0 n))) (sym same) ∙ c.loop-number.invariant)
