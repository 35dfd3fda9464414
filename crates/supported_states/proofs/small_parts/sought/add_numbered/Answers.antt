use Rattle.std.proofs.Common.{ℕ, Bool, filter, arith}
use Rattle.round_trip.specs.Words.{Entity}
use Rattle.population.specs.Numbered.{number_count, numbered, numbered_key}
use Rattle.supported_states.specs.small_parts.Sought.{numbers_sought}
use Rattle.supported_states.specs.Spots.{passes}
use Rattle.supported_states.proofs.Turns.{joins-filter, map-joins, one_number, same_number}
use Rattle.supported_states.proofs.small_parts.sought.add_numbered.Goals as goal

pub loop-number-preserved : goal.loop-number-preserved
loop-number-preserved c =
    let sought = c.args.sought.now in
    let set = c.args.set in
    let entry = c.args.entry.now in
    let made : ℕ → Entity = numbered sought.model.now sought.row set entry in
    let test : ℕ → Bool = λ n. passes sought.pick (record { set = set; key = numbered_key sought.model.now sought.row set n }) in
    one_number (numbers_sought sought set entry) (map-joins (filter test) made (joins-filter test)) c.loop-number.number c.args.entities.now c.loop-number.entities c.add_number.new.entities
    c.loop-number.invariant c.in_ok-add_number.ensures

pub returns : goal.returns
returns c =
    let count = number_count c.args.sought.now.model.now in
    let end = c.in_ok-number-end.ensures in
    let up = c.loop-number.auto.number-end in
    let down = c.loop-number-test.false in
    same_number (numbers_sought c.args.sought.now c.args.set c.args.entry.now) c.loop-number.number count (omega (arith, end, up)) (omega (arith, end, down)) c.args.entities.now c.loop-number.entities
    c.loop-number.invariant
