use Rattle.std.proofs.Common.{◌<◌, ◌≤◌, ℕ, List, All, length, sym, subst, ◌∙◌}
use Rattle.round_trip.specs.Words.{ColId, Row, TableId, rows_in}
use Rattle.row_plans.specs.Altered.{AddsTable}
use Rattle.row_plans.proofs.altering.Tables.{all_tables, key_within, table_added}
use Rattle.row_plans.proofs.altered.tables.alterations_of.Goals as goal

pub add_table-requires-clause-within : goal.add_table-requires-clause-within
add_table-requires-clause-within c =
    let t : TableId = record { index = c.loop-index.index } in
    let Q : List ColId → List Row → Type 0 = λ cols rows. All (λ row. All (λ col. col.index < length row.cells) cols) rows in
    let is = key_within c.args.store.now c.args.old.now c.requires.sound c.requires.old_tables t c.at.result.now c.at.ensures in
    subst (λ (rows : List Row). Q c.as_slice-key.result.now rows) (sym (c.as_slice.ensures.items ∙ c.rows.ensures))
    (subst (λ (cols : List ColId). Q cols (rows_in c.args.old.now t)) (sym c.as_slice-key.ensures.items) is)

pub add_table-requires-clause-new_within : goal.add_table-requires-clause-new_within
add_table-requires-clause-new_within c =
    let t : TableId = record { index = c.loop-index.index } in
    let Q : List ColId → List Row → Type 0 = λ cols rows. All (λ row. All (λ col. col.index < length row.cells) cols) rows in
    let is = key_within c.args.store.now c.args.new.now c.requires.sound c.requires.new_tables t c.at.result.now c.at.ensures in
    subst (λ (rows : List Row). Q c.as_slice-key.result.now rows) (sym (c.as_slice-in-loop-index.ensures.items ∙ c.rows-in-loop-index.ensures))
    (subst (λ (cols : List ColId). Q cols (rows_in c.args.new.now t)) (sym c.as_slice-key.ensures.items) is)

pub loop-index-preserved : goal.loop-index-preserved
loop-index-preserved c =
    let t : TableId = record { index = c.loop-index.index } in
    let P : List ColId × List Row × List Row → Type 0 = λ p. AddsTable t p.0 p.1 p.2 c.loop-index.found.items c.add_table.new.found.items in
    let old_rows = c.as_slice.ensures.items ∙ c.rows.ensures in
    let new_rows = c.as_slice-in-loop-index.ensures.items ∙ c.rows-in-loop-index.ensures in
    table_added c.args.store.now c.args.old.now c.args.new.now c.requires.old_apart c.requires.new_apart t c.at.result.now c.at.ensures c.loop-index.found.items c.add_table.new.found.items
    (subst P (λ k. (c.as_slice-key.ensures.items k, old_rows k, new_rows k)) c.in_ok-add_table.ensures) c.loop-index.invariant

pub returns-clause-all : goal.returns-clause-all
returns-clause-all c = all_tables c.args.store.now c.args.old.now c.args.new.now c.requires.old_tables c.requires.new_tables c.loop-index.index c.loop-index.found.items
    (subst (λ (n : ℕ). n ≤ c.loop-index.index) c.len-index-end.ensures.count c.loop-index-test.false) c.loop-index.invariant
