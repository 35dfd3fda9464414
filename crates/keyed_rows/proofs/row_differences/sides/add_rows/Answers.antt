use Rattle.std.proofs.Common.{◌≡◌, ◌<◌, ◌≤◌, ◌+◌, ◌++◌, ◌∷◌, [], All, List, append_assoc, append-nil, length, map, take, sym, ap, subst, ◌∙◌}
use Rattle.std.specs.Borrow.{Bor}
use Rattle.std.specs.Global.{Vec}
use Rattle.std.proofs.lemmas.List.{map-append, take_all}
use Rattle.std.proofs.lemmas.List.Elements.{All-contains}
use Rattle.emc_base.proofs.Loops.{take_item}
use Rattle.emc_base.proofs.Mapped.{contains_at}
use Rattle.round_trip.specs.Words.{Row, Value}
use Rattle.table_files.specs.InOrder.{lent_rows}
use Rattle.keyed_rows.specs.row_differences.Sides.{keyed_row, shown_sided}
use Rattle.keyed_rows.specs.declared.row_differences.sides.Side.{Side}
use Rattle.keyed_rows.specs.declared.row_differences.sides.SidedRow.{SidedRow}
use Rattle.keyed_rows.proofs.row_differences.sides.add_rows.Goals as goal

pub loop-i-preserved : goal.loop-i-preserved
loop-i-preserved c =
    let rows : List Row = lent_rows c.args.rows.now in
    let row : Row = c.row-row.result.now in
    let keyed : Row → List Value × Side × Row = keyed_row c.args.side c.args.cols.now in
    let before : List (List Value × Side × Row) = map shown_sided c.args.keyed.now.items in
    let old : List (Vec (Bor Value) × SidedRow) = c.loop-i.keyed.items in
    let pushed : Vec (Bor Value) × SidedRow = (c.in_ok-key.key, record { side = c.args.side; row = c.row-row.result }) in
    let is : shown_sided pushed ∷ [] ≡ keyed row ∷ [] = ap (λ (key : List Value). (key, c.args.side, row) ∷ []) c.in_ok-key.ensures in
    let taken : map keyed (take (c.loop-i.i + 1) rows) ≡ map keyed (take c.loop-i.i rows) ++ keyed row ∷ [] =
    ap (map keyed) (take_item rows c.loop-i.i row c.row-row.ensures) ∙ map-append keyed (take c.loop-i.i rows) (row ∷ []) in
    ap (map shown_sided) c.in_ok-push.ensures.items ∙ map-append shown_sided old (pushed ∷ []) ∙ ap (λ list. map shown_sided old ++ list) is
    ∙ ap (λ list. list ++ keyed row ∷ []) c.loop-i.invariant ∙ append_assoc before (map keyed (take c.loop-i.i rows)) (keyed row ∷ []) ∙ ap (λ list. before ++ list) (sym taken)

pub loop-i-init : goal.loop-i-init
loop-i-init c = sym (append-nil (map shown_sided c.args.keyed.now.items))

pub row-row-requires : goal.row-row-requires
row-row-requires c = subst (λ n. c.loop-i.i < n) c.len-i-end.ensures c.loop-i-test.true

pub lent_cells-requires : goal.lent_cells-requires
lent_cells-requires c = All-contains (λ (row : Row). All (λ col. col.index < length row.cells) c.args.cols.now) (lent_rows c.args.rows.now) c.row-row.result.now c.requires
    (contains_at (lent_rows c.args.rows.now) c.loop-i.i c.row-row.result.now c.row-row.ensures)

pub returns : goal.returns
returns c = c.loop-i.invariant ∙ ap (λ rows. map shown_sided c.args.keyed.now.items ++ map (keyed_row c.args.side c.args.cols.now) rows)
    (take_all c.loop-i.i (lent_rows c.args.rows.now) (subst (λ n. n ≤ c.loop-i.i) c.len-i-end.ensures c.loop-i-test.false))
