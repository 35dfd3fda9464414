use Rattle.std.proofs.Common.{◌≡◌, [], flat_map, map, sym, ap, ◌∙◌}
use Rattle.std.specs.List.{enumerate_from}
use Rattle.cells.specs.host_links.Grouped.{links_in}
use Rattle.case_laws.specs.filled_rows.Gathered.{rows_of_links, rows_of_set}
use Rattle.update_views.specs.Placed.{keys_in_sets, with_rows}
use Rattle.update_views.specs.Views.{joined_row, local_rows}
use Rattle.update_views.proofs.views.UpdateViews.tables_by.Goals as goal

pub add_sets-requires-clause-keys : goal.add_sets-requires-clause-keys
add_sets-requires-clause-keys c = c.requires.keys ∙ ap (keys_in_sets c.args.parts.now.model.now) (sym c.entity_lists.ensures)

pub returns : goal.returns
returns c =
    let parts = c.args.parts.now in
    let views = c.args.self.now in
    let hosts = c.args.hosts.now in
    let state = c.args.state.now in
    let of_set = rows_of_set parts.model.now (local_rows views) (joined_row views) (links_in hosts) in
    let of_links = rows_of_links parts.model.now (local_rows views) (joined_row views) (links_in hosts) in
    let sets : c.add_sets.new.tables ≡ with_rows (map (λ _. []) parts.store.now.tables) (flat_map of_set (enumerate_from 0 state.entities)) =
    c.in_ok-add_sets.ensures.added ∙ (λ k. with_rows (c.in_ok-tables.ensures k) (flat_map of_set (enumerate_from 0 (c.entity_lists.ensures k)))) in
    c.in_ok-add_links.ensures.added (links_in hosts) ∙ (λ k. with_rows (sets k) (flat_map of_links (enumerate_from 0 (c.link_lists.ensures k))))
