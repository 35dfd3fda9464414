use Rattle.std.proofs.Common.{◌≡◌, ◌++◌, ℕ, List, flat_map, take, Some, sym, ap, ◌∙◌}
use Rattle.std.specs.List.{enumerate_from}
use Rattle.std.proofs.lemmas.Option.{slice_get-get_or}
use Rattle.emc_base.specs.Lists.{At}
use Rattle.emc_base.proofs.Loops.{take-enumerated}
use Rattle.round_trip.specs.Words.{Hosted, Link, SetId, Value}
use Rattle.table_files.specs.declared.tables.TableRow.{TableRow}
use Rattle.case_laws.specs.filled_rows.Gathered.{rows_of_links}
use Rattle.update_views.specs.Placed.{with_rows}
use Rattle.update_views.specs.Views.{joined_row, local_rows}
use Rattle.update_views.proofs.Added.{next_numbered, rows_added}
use Rattle.update_views.proofs.views.UpdateViews.add_links.Goals as goal

pub loop-index-preserved : goal.loop-index-preserved
loop-index-preserved c =
    let i = c.loop-index.index in
    let views = c.args.self.now in
    let links = c.args.links.now in
    let first = c.args.tables.now in
    let before = c.loop-index.tables in
    let of_assoc : List Link = c.index-links-index.result in
    let number : c.in-Ok.number ≡ i = c.in-Ok.ensures.1 in
    let stands : At links i of_assoc = slice_get-get_or links i of_assoc c.loop-index-test.true ∙ ap Some (sym c.index-links-index.is) in (
      c.add_links_of.ensures.kept ∙ c.loop-index.invariant.0,
      λ (hosted : SetId → List Value → List Hosted).
          (let f : ℕ × List Link → List TableRow = rows_of_links c.args.parts.now.model.now (local_rows views) (joined_row views) hosted in
          let so_far = flat_map f (take i (enumerate_from 0 links)) in
          rows_added first before c.add_links_of.new.tables so_far (f (c.in-Ok.number, c.as_slice.result.now)) (c.loop-index.invariant.1 hosted) (c.in_ok-add_links_of.ensures.added hosted)
          ∙ ap (with_rows first) ((λ k. so_far ++ f (number k, c.as_slice.ensures.items k)) ∙ next_numbered f links i of_assoc stands)),
    )

pub returns-clause-added : goal.returns-clause-added
returns-clause-added c = λ hosted.
    (let views = c.args.self.now in
    let links = c.args.links.now in
    let f : ℕ × List Link → List TableRow = rows_of_links c.args.parts.now.model.now (local_rows views) (joined_row views) hosted in
    c.loop-index.invariant.1 hosted ∙ ap (λ taken. with_rows c.args.tables.now (flat_map f taken)) (take-enumerated links c.loop-index.index c.loop-index-test.false))
