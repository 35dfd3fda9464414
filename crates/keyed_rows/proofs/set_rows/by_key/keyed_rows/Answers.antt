use Rattle.std.proofs.Common.{◌≡◌, ◌<◌, ◌≤◌, length, subst, arith}
use Rattle.cells.specs.Parts.{schema_in}
use Rattle.round_trip.specs.Words.{Schema}
use Rattle.keyed_rows.specs.set_rows.Keyed.{AreKeyedRows, shown_keyed_rows}
use Rattle.keyed_rows.proofs.set_rows.TableRows.{one_table_more}
use Rattle.keyed_rows.proofs.set_rows.by_key.keyed_rows.Goals as goal

pub loop-place-preserved : goal.loop-place-preserved
loop-place-preserved c =
    let schema : Schema = schema_in c.args.parts.now in
    one_table_more schema c.requires.parts.sound c.args.tables.now c.requires.legal c.args.set (record { index = c.loop-place.place })
    (shown_keyed_rows c.loop-place.keyed.items) (shown_keyed_rows c.add_table.new.keyed.items) c.loop-place.invariant c.in_ok-add_table.ensures

pub add_table-requires-clause-within : goal.add_table-requires-clause-within
add_table-requires-clause-within c = subst (λ n. c.loop-place.place < n) c.len-place-end.ensures.count c.loop-place-test.true

pub returns : goal.returns
returns c =
    let tables = c.args.parts.now.store.now.tables in
    let past : length tables ≤ c.loop-place.place = subst (λ n. n ≤ c.loop-place.place) c.len-place-end.ensures.count c.loop-place-test.false in
    let within : c.loop-place.place ≤ length tables = subst (λ n. c.loop-place.place ≤ n) c.len-place-end.ensures.count c.loop-place.auto.place-end in
    let same : c.loop-place.place ≡ length tables = omega (arith, past, within) in
    subst (λ n. AreKeyedRows (schema_in c.args.parts.now) c.args.tables.now c.args.set n (shown_keyed_rows c.loop-place.keyed.items)) same c.loop-place.invariant
