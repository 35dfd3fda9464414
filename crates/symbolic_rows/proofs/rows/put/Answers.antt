use Rattle.std.proofs.Common.{refl}
use Rattle.std.specs.Vec.{vec_len}
use Rattle.std.proofs.lemmas.Option.{slice_get_read}
use Rattle.symbolic_rows.proofs.Grouping.{column_takes, no_column}
use Rattle.symbolic_rows.proofs.Placed.{nothing_there}
use Rattle.symbolic_rows.proofs.rows.put.Goals as goal

pub returns-in_ok-add_once : goal.returns-in_ok-add_once
returns-in_ok-add_once c = λ before count holds.
    (let there = c.in-Some.ensures.item in
    column_takes before c.args.col c.args.symbol.now count c.args.cells.now.items holds c.in-Some.own.now c.add_once.new.own
    (slice_get_read _ _ _ _ refl there.3.0 there.1) c.in_ok-add_once.ensures)

pub returns-in_default : goal.returns-in_default
returns-in_default c = λ before count holds.
    (let old = c.args.cells.now in
    no_column before c.args.col c.args.symbol.now count old.items holds
    (nothing_there old.items (vec_len old) c.args.col.index old.ok.0 c.in_default.ensures.variant))
