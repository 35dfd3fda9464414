use Rattle.std.proofs.Common.{◌++◌, inr, Contains, sym, ap, subst, ◌∙◌}
use Rattle.std.proofs.lemmas.Option.{slice_get_within}
use Rattle.round_trip.proofs.Lookups.{assoc_of}
use Rattle.cells.specs.Parts.{schema_in}
use Rattle.regions.specs.declared.pattern.Pattern.{Pattern}
use Rattle.regions.specs.region_laws.pattern.Described.{row_for}
use Rattle.region_states.specs.defaults.Defaults.{default_valuation}
use Rattle.region_states.specs.focus.Held.{HasRow}
use Rattle.region_states.specs.region_basis.BasisOf.{basis_of}
use Rattle.witness_state.specs.SmallLinks.{end_in_row}
use Rattle.witness_state.proofs.links_small.HostRows.{keys_are}
use Rattle.witness_state.proofs.small_links.places.host_row_place.Goals as goal

pub at-declared-requires : goal.at-declared-requires
at-declared-requires c =
    let schema = schema_in c.args.parts.now in
    let found = assoc_of schema c.requires.parts.sound c.args.fragment.now c.requires.mapped in
    slice_get_within schema.model.assocs c.args.fragment.now.assoc.index found.0 found.1

pub row_in-row-requires : goal.row_in-row-requires
row_in-row-requires c = subst (λ (pattern : Pattern). HasRow pattern c.args.fragment.now.table) (sym c.requires.pattern) c.requires.row

pub returns : goal.returns
returns c =
    let schema = schema_in c.args.parts.now in
    let assoc = c.at-declared.result.now in
    let fragment = c.args.fragment.now in
    let row = row_for (default_valuation (basis_of c.args.parts.now) 0 c.args.region.now) c.row_in-row.result.now in
    let first_is = c.in_ok-first.ensures ∙ ap (end_in_row schema.model row assoc.first.ty) c.as_slice-pairs.ensures.items in
    let second_is = c.in_ok-second.ensures ∙ ap (end_in_row schema.model row assoc.second.ty) c.as_slice-pairs-2.ensures.items in
    let keys_is = c.in_ok-joined.ensures ∙ (λ k. first_is k ++ second_is k) ∙ sym (keys_are row schema assoc fragment) in
    inr (
      fragment,
      c.in_ok-joined.field-0,
      c.requires.mapped,
      c.requires.named,
      record {
        assoc = assoc;
        is_assoc = c.at-declared.ensures;
        row = c.row_in-row.result.now;
        is_row = subst (λ (pattern : Pattern). Contains pattern.rows c.row_in-row.result.now) c.requires.pattern c.row_in-row.ensures.among;
        of_table = c.row_in-row.ensures.of_table;
        is = keys_is;
      },
      λ k. record { name = c.in_ok-copy.ensures k; key = c.in_ok-joined.field-0; part = c.in_ok-of.ensures k },
    )
