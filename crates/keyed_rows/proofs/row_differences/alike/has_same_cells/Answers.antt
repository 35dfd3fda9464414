use Rattle.std.proofs.Common.{◌≡◌, ap, get_or, sym, ◌∙◌, true≢false, unwrap_or}
use Rattle.std.specs.Ordering.{is_ne}
use Rattle.std.proofs.lemmas.List.{get_or_default}
use Rattle.round_trip.specs.Words.{ColId, Null, cell_of}
use Rattle.keyed_rows.proofs.row_differences.Apart.{one_value, two_values}
use Rattle.keyed_rows.proofs.row_differences.SideBySide.{same_in_each, same_more}
use Rattle.keyed_rows.proofs.row_differences.alike.has_same_cells.Goals as goal

pub returns-then-is_ne : goal.returns-then-is_ne
returns-then-is_ne c =
    let i = c.loop-col.col-index in
    let col : ColId = get_or c.args.cols.now i record { index = 0 } in
    let first : cell_of c.args.one.now col ≡ c.at.result.now = ap (λ found. unwrap_or found Null) c.at.ensures in
    let second : cell_of c.args.other.now col ≡ c.at-in-loop-col.result.now = ap (λ found. unwrap_or found Null) c.at-in-loop-col.ensures in (
      λ told. absurd (true≢false (sym told)),
      λ same. absurd ((two_values c.at.result.now c.at-in-loop-col.result.now).0 (ap is_ne (sym c.compare.ensures) ∙ sym c.if-is_ne.ensures)
          (sym first ∙ same_in_each c.args.one.now c.args.other.now c.args.cols.now i col c.loop-col-test.true (get_or_default c.args.cols.now i record { index = 0 } col c.loop-col-test.true) same ∙ second)),
    )

pub loop-col-preserved : goal.loop-col-preserved
loop-col-preserved c =
    let i = c.loop-col.col-index in
    let col : ColId = get_or c.args.cols.now i record { index = 0 } in
    let first : cell_of c.args.one.now col ≡ c.at.result.now = ap (λ found. unwrap_or found Null) c.at.ensures in
    let second : cell_of c.args.other.now col ≡ c.at-in-loop-col.result.now = ap (λ found. unwrap_or found Null) c.at-in-loop-col.ensures in
    same_more c.args.one.now c.args.other.now c.args.cols.now i col c.loop-col-test.true (get_or_default c.args.cols.now i record { index = 0 } col c.loop-col-test.true)
    (first ∙ one_value c.at.result.now c.at-in-loop-col.result.now (ap is_ne (sym c.compare.ensures) ∙ sym c.if-is_ne.ensures) ∙ sym second) c.loop-col.invariant
