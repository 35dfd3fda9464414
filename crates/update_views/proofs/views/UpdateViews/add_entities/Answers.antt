use Rattle.std.proofs.Common.{◌≡◌, ◌++◌, List, flat_map, take, Some, sym, ap, ◌∙◌}
use Rattle.std.proofs.lemmas.Option.{slice_get-get_or}
use Rattle.emc_base.specs.Lists.{At}
use Rattle.round_trip.specs.Words.{Entity, key_of}
use Rattle.cells.specs.host_links.Grouped.{links_in}
use Rattle.table_files.specs.declared.tables.TableRow.{TableRow}
use Rattle.update_views.specs.Placed.{with_rows}
use Rattle.update_views.specs.Views.{local_rows}
use Rattle.update_views.proofs.Added.{next_lists, rows_added}
use Rattle.update_views.proofs.Imaged.{image_here}
use Rattle.update_views.proofs.views.UpdateViews.add_entities.Goals as goal

pub loop-place-preserved : goal.loop-place-preserved
loop-place-preserved c =
    let i = c.loop-place.place in
    let views = c.args.self.now in
    let s = c.args.set in
    let entities = c.args.entities.now in
    let first = c.args.tables.now in
    let before = c.loop-place.tables in
    let entity : Entity = c.index-entities-place.result in
    let stands : At entities i entity = slice_get-get_or entities i entity c.loop-place-test.true ∙ ap Some (sym c.index-entities-place.is) in
    let f : Entity → List TableRow = λ one. local_rows views s one (links_in c.args.hosts.now s (key_of c.args.parts.now.model.now one)) in
    let is_key = image_here (key_of c.args.parts.now.model.now) entities c.args.keys.now c.requires.keys i entity c.index-keys-place.result stands c.loop-place-test.true c.index-keys-place.is in
    let shown : c.at-links.result.now ≡ links_in c.args.hosts.now s (key_of c.args.parts.now.model.now entity) = c.at-links.ensures ∙ ap (links_in c.args.hosts.now s) is_key in
    let so_far = flat_map f (take i entities) in (
      c.add_rows.ensures.kept ∙ c.loop-place.invariant.0,
      rows_added first before c.add_rows.new.tables so_far c.in_ok-rows.rows.items c.loop-place.invariant.1 c.in_ok-add_rows.ensures.added
          ∙ ap (with_rows first) (ap (λ more. so_far ++ more) (c.in_ok-rows.ensures ∙ ap (local_rows views s entity) shown) ∙ next_lists f entities i entity stands),
    )
