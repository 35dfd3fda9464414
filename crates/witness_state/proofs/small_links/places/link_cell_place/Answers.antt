use Rattle.std.proofs.Common.{◌≡◌, ◌<◌, [], map, length, Option, sym, ap, subst, ◌∙◌}
use Rattle.std.specs.Option.{option_map_or}
use Rattle.std.proofs.lemmas.Option.{slice_get_within}
use Rattle.emc_base.proofs.Lists.{at_once}
use Rattle.round_trip.specs.Words.{AssocId, At, Table, key_columns, link_cells, written_to}
use Rattle.cells.specs.Parts.{schema_in}
use Rattle.population.specs.LinkStates.{plain_link}
use Rattle.witness_state.proofs.small_links.places.link_cell_place.Goals as goal

pub at-entry-requires : goal.at-entry-requires
at-entry-requires c = slice_get_within c.args.parts.now.store.now.tables c.args.table.index c.requires.column.0 c.requires.column.2.is_table

pub at-column-requires : goal.at-column-requires
at-column-requires c =
    let same = at_once c.args.parts.now.store.now.tables c.args.table.index c.requires.column.0 c.at-entry.result.now c.requires.column.2.is_table c.at-entry.ensures in
    subst (λ (table : Table). c.args.col.index < length table.cols) same
    (slice_get_within c.requires.column.0.cols c.args.col.index c.requires.column.1 c.requires.column.2.is_column)

pub at-declared-requires : goal.at-declared-requires
at-declared-requires c =
    let of = c.requires.of_table in
    let assocs = c.args.parts.now.model.now.assocs in
    subst (λ (a : AssocId). a.index < length assocs) of.of_assoc (slice_get_within assocs of.fragment.assoc.index of.assoc of.joined.is_assoc)

pub fragment_of-fragment-requires : goal.fragment_of-fragment-requires
fragment_of-fragment-requires c = (c.args.assoc, c.requires.of_table)

pub returns : goal.returns
returns c =
    let schema = schema_in c.args.parts.now in
    let of = c.requires.of_table in
    let fragment_is = c.fragment_of-fragment.ensures c.args.assoc of in
    let assoc_is : c.at-declared.result.now ≡ of.assoc =
    at_once schema.model.assocs c.args.assoc.index c.at-declared.result.now of.assoc c.at-declared.ensures
    (subst (λ (a : AssocId). At schema.model.assocs a.index of.assoc) of.of_assoc of.joined.is_assoc) in
    let link_is = c.in_ok-link.ensures ∙ ap (plain_link schema.model 0) assoc_is in
    let cols_are : c.as_slice-cols.result.now ≡ key_columns schema.store of.fragment.table = c.as_slice-cols.ensures.items
    ∙ sym (ap (λ (found : Option Table). option_map_or (λ (table : Table). table.key) found []) c.at-entry.ensures) ∙ ap (key_columns schema.store) (sym of.joined.to_table) in
    let key = c.in_ok-written_values.ensures
    ∙ (λ k. map (written_to (link_cells schema.model (assoc_is k) (fragment_is k) (link_is k))) (cols_are k)) in
    record {
      table = c.at-entry.result.now;
      column = c.at-column.result.now;
      has_column = record { is_table = c.at-entry.ensures; is_column = c.at-column.ensures };
      fragment = of.fragment;
      assoc = of.assoc;
      joined = of.joined;
      of_assoc = of.of_assoc;
      is = λ k. record { name = c.in_ok-copy.ensures k; key = key k; part = c.in_ok-copy-2.ensures k };
    }
