use Rattle.std.proofs.Common.{arith, ◌≡◌, All, ◌++◌, ◌+◌, List, [], ◌∷◌, map, take, ap, subst, sym, ◌∙◌}
use Rattle.std.proofs.lemmas.Grind.{common_steps}
use Rattle.std.proofs.lemmas.List.{map_push, take_more}
use Rattle.std.proofs.lemmas.List.Elements.{All-push}
use Rattle.round_trip.specs.Words.{Row}
use Rattle.table_files.specs.Entries.{HasFirstCells}
use Rattle.table_files.specs.declared.sort_entry.SortEntry.{SortEntry}
use Rattle.table_files.proofs.Entries.{row_in}
use Rattle.table_files.proofs.sort_entry.lent_entries.Goals as goal

pub loop-row-preserved : goal.loop-row-preserved
loop-row-preserved c =
    let rows = c.args.rows.now in
    let n = c.loop-row.row-index in
    let entries = c.loop-row.entries.items in
    let entry = c.entry_of.result in
    let Same : List SortEntry → Type 0 = λ list. map row_in list ≡ take (n + 1) rows in
    let Hold = HasFirstCells c.args.cols.now in (
      subst Same (sym c.in_ok-push.ensures.items)
          (map_push row_in entries entry ∙ ap (λ list. list ++ row_in entry ∷ []) c.loop-row.invariant.0
          ∙ ap (λ (row : Row). take n rows ++ row ∷ []) (c.entry_of.ensures.same ∙ c.row-item.is) ∙ sym (take_more rows n c.row-item.result c.loop-row-test.true)),
      subst (All Hold) (sym c.in_ok-push.ensures.items) (All-push Hold entries entry c.loop-row.invariant.1 c.entry_of.ensures.firsts),
    )

pub returns-clause-same : goal.returns-clause-same
returns-clause-same c = grind (arith, common_steps)

pub returns-clause-firsts : goal.returns-clause-firsts
returns-clause-firsts c = grind (arith, common_steps)
