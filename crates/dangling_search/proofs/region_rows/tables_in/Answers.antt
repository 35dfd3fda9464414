use Rattle.std.proofs.Common.{◌∙◌, map, refl, ap}
use Rattle.std.proofs.lemmas.List.{take_all}
use Rattle.std.proofs.lemmas.Option.{slice_get_read}
use Rattle.emc_base.proofs.Turns.{mapped_more}
use Rattle.regions.specs.declared.pattern.PatternRow.{PatternRow}
use Rattle.dangling_search.proofs.region_rows.tables_in.Goals as goal

pub loop-row-preserved : goal.loop-row-preserved
loop-row-preserved c =
    let i = c.loop-row.row-index in
    c.in_ok-push.ensures.ok ∙ mapped_more (λ (row : PatternRow). row.table) c.args.rows.now i c.row-item.result c.loop-row.list c.row-item.result.table c.loop-row.invariant
    (slice_get_read _ _ i _ refl c.loop-row-test.true c.row-item.is) refl

pub returns : goal.returns
returns c = c.loop-row.invariant ∙ ap (map (λ (row : PatternRow). row.table)) (take_all c.loop-row.row-index c.args.rows.now c.loop-row-test.false)
