use Rattle.std.proofs.Common.{◌≡◌, ◌∙◌, List, length, map, ap, subst}
use Rattle.round_trip.specs.Words.{Row, Tables}
use Rattle.row_changes.specs.declared.change.RowChange.{RowChange}
use Rattle.entity_changes.specs.declared.making.fates.Fates.{Fates}
use Rattle.std.specs.List.{enumerate_from}
use Rattle.delta_plan.specs.Running.{Foretells, rows_left}
use Rattle.delta_plan.proofs.running.Made.{tables_made}
use Rattle.delta_plan.proofs.running.run_changes.Goals as goal

pub returns : goal.returns
returns c =
    let store = c.args.store.now in
    let tables : Tables = c.args.tables.now in
    let fates : Fates Row = c.in_ok-fates.fates in
    let size : length fates.behind.items ≡ length tables = c.in_ok-fates.ensures.size ∙ ap length c.as_slice-lists.ensures in
    let P : List RowChange → Type 0 = λ changes. Foretells store changes fates in
    c.of_lists.ensures ∙ c.in_ok-rows.ensures
    ∙ ap (λ (lists : Tables). map (rows_left store fates) (enumerate_from 0 lists)) c.as_slice-lists.ensures
    ∙ tables_made store fates tables c.args.changes.now (subst P c.as_slice.ensures.items c.in_ok-fates.ensures.told) size
