use Rattle.std.proofs.Common.{◌∙◌, ◌≡◌, ◌+◌, List, Vec, Global, ap, arith, length, map, refl, subst, sym}
use Rattle.std.specs.Borrow.{Bor}
use Rattle.std.proofs.lemmas.List.{map_push}
use Rattle.std.proofs.lemmas.Option.{slice_get_read}
use Rattle.round_trip.specs.Words.{ColId, Row}
use Rattle.table_files.specs.InOrder.{IsInOrderOf}
use Rattle.table_files.proofs.Sorted.{AreSortedUpTo, all_sorted, one_more_sorted}
use Rattle.table_files.proofs.tables_tree.sorted_tables.Goals as goal

pub loop-i-preserved : goal.loop-i-preserved
loop-i-preserved c =
    let lent = λ (rows : Vec (Bor Row) Global). map (λ (row : Bor Row). row.now) rows.items in
    let new = c.in_ok-rows_in_order.field-0 in
    let table = c.index-declared-i.result in
    let declared = c.as_slice-declared.result.now in
    let P : List ColId → Type 0 = λ cols. IsInOrderOf cols c.as_slice.result.now (lent new) in
    let Q : List Row → Type 0 = λ rows. IsInOrderOf table.key rows (lent new) in
    let order = subst Q (c.as_slice.ensures.items ∙ c.rows-rows.ensures) (subst P c.as_slice-in-loop-i.ensures.items c.in_ok-rows_in_order.ensures) in
    let here = slice_get_read declared (length declared) c.loop-i.i table refl c.loop-i-test.true c.index-declared-i.is in
    subst (AreSortedUpTo (c.loop-i.i + 1) declared c.args.tables.now) (sym (ap (map lent) c.in_ok-push.ensures.items ∙ map_push lent c.loop-i.sorted.items new))
    (one_more_sorted c.loop-i.i declared c.args.tables.now (map lent c.loop-i.sorted.items) table (lent new) here order c.loop-i.invariant)

pub returns : goal.returns
returns c =
    let all : c.loop-i.i ≡ length c.as_slice-declared.result.now = omega (arith, c.loop-i-test.false, c.loop-i.auto.i-end) in
    all_sorted c.args.store.now c.loop-i.i c.as_slice-declared.result.now c.args.tables.now _ c.as_slice-declared.ensures.items all c.loop-i.invariant
