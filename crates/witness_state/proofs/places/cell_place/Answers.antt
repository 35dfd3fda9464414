use Rattle.std.proofs.Common.{◌<◌, length, sym, ap, subst, ◌∙◌}
use Rattle.std.proofs.lemmas.Option.{slice_get_within}
use Rattle.emc_base.proofs.Lists.{at_once}
use Rattle.round_trip.specs.Words.{Table, values_of}
use Rattle.cells.specs.Parts.{schema_in}
use Rattle.schema_laws.proofs.sound_demand.owners.Owned.{owned}
use Rattle.witness_state.proofs.Pairing.{key_told}
use Rattle.witness_state.proofs.places.cell_place.Goals as goal

pub at-declared-requires : goal.at-declared-requires
at-declared-requires c = slice_get_within c.args.parts.now.store.now.tables c.args.table.index c.requires.column.0 c.requires.column.2.is_table

pub at-column-requires : goal.at-column-requires
at-column-requires c =
    let same = at_once c.args.parts.now.store.now.tables c.args.table.index c.requires.column.0 c.at-declared.result.now c.requires.column.2.is_table c.at-declared.ensures in
    subst (λ (table : Table). c.args.col.index < length table.cols) same
    (slice_get_within c.requires.column.0.cols c.args.col.index c.requires.column.1 c.requires.column.2.is_column)

pub pairing-pairing-requires : goal.pairing-pairing-requires
pairing-pairing-requires c = subst (λ n. c.args.table.index < n) (sym c.requires.parts.cells.pairings.size)
    (slice_get_within c.args.parts.now.store.now.tables c.args.table.index c.requires.column.0 c.requires.column.2.is_table)

pub returns : goal.returns
returns c = λ s pairs owns.
    let schema = schema_in c.args.parts.now in
    let own = owned schema c.requires.parts.sound c.args.table s pairs owns in
    let told = c.requires.parts.cells.pairings.each c.args.table c.pairing-pairing.result.now c.pairing-pairing.ensures in
    let key = c.in_ok-values_of.ensures ∙ ap (values_of schema.model c.args.entity.now) c.as_slice.ensures.items
    ∙ key_told schema c.args.table s own.0 own.1 c.pairing-pairing.result.now told (pairs, owns) c.args.entity.now in
    record {
      table = c.at-declared.result.now;
      column = c.at-column.result.now;
      has_column = record { is_table = c.at-declared.ensures; is_column = c.at-column.ensures };
      pairing = own.0;
      owned = own.1;
      place_is = λ k. record { name = c.in_ok-copy.ensures k; key = key k; part = c.in_ok-copy-2.ensures k };
    }
