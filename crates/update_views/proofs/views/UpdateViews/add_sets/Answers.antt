use Rattle.std.proofs.Common.{◌≡◌, ◌++◌, ℕ, List, flat_map, map, take, Some, sym, ap, ◌∙◌}
use Rattle.std.specs.List.{enumerate_from}
use Rattle.std.proofs.lemmas.Option.{slice_get-get_or}
use Rattle.emc_base.specs.Lists.{At}
use Rattle.emc_base.proofs.Loops.{take-enumerated}
use Rattle.round_trip.specs.Words.{Entity, Value, key_of}
use Rattle.cells.specs.host_links.Grouped.{links_in}
use Rattle.table_files.specs.declared.tables.TableRow.{TableRow}
use Rattle.case_laws.specs.filled_rows.Gathered.{rows_of_set}
use Rattle.update_views.specs.Placed.{with_rows}
use Rattle.update_views.specs.Views.{joined_row, local_rows}
use Rattle.update_views.proofs.Added.{next_numbered, rows_added}
use Rattle.update_views.proofs.Imaged.{image_here}
use Rattle.update_views.proofs.views.UpdateViews.add_sets.Goals as goal

pub loop-index-preserved : goal.loop-index-preserved
loop-index-preserved c =
    let i = c.loop-index.index in
    let views = c.args.self.now in
    let entities = c.args.entities.now in
    let first = c.args.tables.now in
    let before = c.loop-index.tables in
    let of_set : List Entity = c.index-entities-index.result in
    let number : c.in-Ok.number ≡ i = c.in-Ok.ensures.1 in
    let stands : At entities i of_set = slice_get-get_or entities i of_set c.loop-index-test.true ∙ ap Some (sym c.index-entities-index.is) in
    let f : ℕ × List Entity → List TableRow = rows_of_set c.args.parts.now.model.now (local_rows views) (joined_row views) (links_in c.args.hosts.now) in
    let so_far = flat_map f (take i (enumerate_from 0 entities)) in (
      c.add_entities.ensures.kept ∙ c.loop-index.invariant.0,
      rows_added first before c.add_entities.new.tables so_far (f (c.in-Ok.number, c.as_slice.result.now)) c.loop-index.invariant.1 c.in_ok-add_entities.ensures.added
          ∙ ap (with_rows first) ((λ k. so_far ++ f (number k, c.as_slice.ensures.items k)) ∙ next_numbered f entities i of_set stands),
    )

pub add_entities-requires-clause-keys : goal.add_entities-requires-clause-keys
add_entities-requires-clause-keys c =
    let i = c.loop-index.index in
    let entities = c.args.entities.now in
    let of_set : List Entity = c.index-entities-index.result in
    let stands : At entities i of_set = slice_get-get_or entities i of_set c.loop-index-test.true ∙ ap Some (sym c.index-entities-index.is) in
    let keys_of : List Entity → List (List Value) = map (key_of c.args.parts.now.model.now) in
    c.as_slice-keys.ensures.items ∙ image_here keys_of entities c.args.keys.now c.requires.keys i of_set c.index-keys-index.result stands c.loop-index-test.true c.index-keys-index.is
    ∙ ap keys_of (sym c.as_slice.ensures.items)

pub returns-clause-added : goal.returns-clause-added
returns-clause-added c =
    let views = c.args.self.now in
    let entities = c.args.entities.now in
    let f : ℕ × List Entity → List TableRow = rows_of_set c.args.parts.now.model.now (local_rows views) (joined_row views) (links_in c.args.hosts.now) in
    c.loop-index.invariant.1 ∙ ap (λ taken. with_rows c.args.tables.now (flat_map f taken)) (take-enumerated entities c.loop-index.index c.loop-index-test.false)
