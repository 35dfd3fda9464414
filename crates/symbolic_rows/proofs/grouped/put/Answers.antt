use Rattle.std.proofs.Common.{refl}
use Rattle.std.specs.Vec.{vec_len}
use Rattle.std.proofs.lemmas.Option.{slice_get_read}
use Rattle.symbolic_rows.proofs.Grouping.{no_table, table_takes}
use Rattle.symbolic_rows.proofs.Placed.{nothing_there}
use Rattle.symbolic_rows.proofs.grouped.put.Goals as goal

pub returns-in_ok-push : goal.returns-in_ok-push
returns-in_ok-push c = λ writings count holds.
    (let there = c.in-Some.ensures.item in
    table_takes writings c.args.writing count c.args.grouped.now.items holds c.in-Some.own.now c.push.new.self
    (slice_get_read _ _ _ _ refl there.3.0 there.1) c.in_ok-push.ensures.items)

pub returns-in_default : goal.returns-in_default
returns-in_default c = λ writings count holds.
    (let old = c.args.grouped.now in
    no_table writings c.args.writing count old.items holds
    (nothing_there old.items (vec_len old) c.args.writing.table.index old.ok.0 c.in_default.ensures.variant))
