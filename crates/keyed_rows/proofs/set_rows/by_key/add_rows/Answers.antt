use Rattle.std.proofs.Common.{◌≡◌, ◌<◌, ◌≤◌, ◌+◌, ◌++◌, ◌∷◌, [], All, List, append_assoc, append-nil, length, map, take, sym, ap, subst, ◌∙◌}
use Rattle.std.specs.Borrow.{Bor}
use Rattle.std.specs.Global.{Vec}
use Rattle.std.proofs.lemmas.List.{map-append, take_all}
use Rattle.std.proofs.lemmas.List.Elements.{All-contains}
use Rattle.case_laws.specs.declared.candidates.placed.PlacedRow.{PlacedRow}
use Rattle.emc_base.proofs.Loops.{take_item}
use Rattle.emc_base.proofs.Mapped.{contains_at}
use Rattle.round_trip.specs.Words.{Row, Value}
use Rattle.table_files.specs.InOrder.{lent_rows}
use Rattle.keyed_rows.specs.set_rows.Keyed.{KeyedRow, keyed_row, shown_keyed_row, shown_keyed_rows}
use Rattle.keyed_rows.proofs.set_rows.by_key.add_rows.Goals as goal

pub loop-i-preserved : goal.loop-i-preserved
loop-i-preserved c =
    let rows : List Row = lent_rows c.args.rows.now in
    let row : Row = c.row-row.result.now in
    let keyed : Row → KeyedRow = keyed_row c.args.table c.args.order.now in
    let before : List KeyedRow = shown_keyed_rows c.args.keyed.now.items in
    let old : List (Vec (Bor Value) × PlacedRow) = c.loop-i.keyed.items in
    let pushed : Vec (Bor Value) × PlacedRow = (c.in_ok-key.key, record { table = c.args.table; row = c.row-row.result }) in
    let is : shown_keyed_row pushed ∷ [] ≡ keyed row ∷ [] = ap (λ (key : List Value). (key, (c.args.table, row)) ∷ []) c.in_ok-key.ensures in
    let taken : map keyed (take (c.loop-i.i + 1) rows) ≡ map keyed (take c.loop-i.i rows) ++ keyed row ∷ [] =
    ap (map keyed) (take_item rows c.loop-i.i row c.row-row.ensures) ∙ map-append keyed (take c.loop-i.i rows) (row ∷ []) in
    ap (map shown_keyed_row) c.in_ok-push.ensures.items ∙ map-append shown_keyed_row old (pushed ∷ []) ∙ ap (λ list. map shown_keyed_row old ++ list) is
    ∙ ap (λ list. list ++ keyed row ∷ []) c.loop-i.invariant ∙ append_assoc before (map keyed (take c.loop-i.i rows)) (keyed row ∷ []) ∙ ap (λ list. before ++ list) (sym taken)

pub loop-i-init : goal.loop-i-init
loop-i-init c = sym (append-nil (shown_keyed_rows c.args.keyed.now.items))

pub row-row-requires : goal.row-row-requires
row-row-requires c = subst (λ n. c.loop-i.i < n) c.len-i-end.ensures c.loop-i-test.true

pub lent_cells-requires : goal.lent_cells-requires
lent_cells-requires c = All-contains (λ (row : Row). All (λ col. col.index < length row.cells) c.args.order.now) (lent_rows c.args.rows.now) c.row-row.result.now c.requires
    (contains_at (lent_rows c.args.rows.now) c.loop-i.i c.row-row.result.now c.row-row.ensures)

pub returns : goal.returns
returns c = c.loop-i.invariant ∙ ap (λ rows. shown_keyed_rows c.args.keyed.now.items ++ map (keyed_row c.args.table c.args.order.now) rows)
    (take_all c.loop-i.i (lent_rows c.args.rows.now) (subst (λ n. n ≤ c.loop-i.i) c.len-i-end.ensures c.loop-i-test.false))
