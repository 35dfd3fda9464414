use Rattle.std.proofs.Common.{subst, ◌∙◌, ap}
use Rattle.regions.specs.declared.pattern.Focus.{Focus}
use Rattle.region_states.specs.region_basis.BasisOf.{basis_of}
use Rattle.dangling_keys.specs.Outer.{outer_row}
use Rattle.dangling_states.specs.Referring.{Refers}
use Rattle.witness_state.proofs.told.Links.{table_of_row}
use Rattle.dangling_states.proofs.Placing.{link_named}
use Rattle.dangling_states.proofs.places.link_place.Goals as goal

pub fragment_of-fragment-requires : goal.fragment_of-fragment-requires
fragment_of-fragment-requires c =
    let basis = basis_of c.args.parts.now in
    let key = c.args.referring.key.now in
    let here = subst (λ (it : Focus). Refers basis it key) c.requires.of c.requires.refers in
    (c.args.assoc, table_of_row c.args.parts.now c.requires.parts c.args.assoc here.of_rows.0 here.of_rows.1 key.from here.refers.row)

pub returns : goal.returns
returns c =
    let basis = basis_of c.args.parts.now in
    let key = c.args.referring.key.now in
    let here = subst (λ (it : Focus). Refers basis it key) c.requires.of c.requires.refers in
    let of = table_of_row c.args.parts.now c.requires.parts c.args.assoc here.of_rows.0 here.of_rows.1 key.from here.refers.row in
    let row_is = c.requires.referring.row ∙ ap (λ (it : Focus). outer_row basis it key) c.requires.of in
    link_named basis key c.args.assoc of c.at-declared.result.now c.at-declared.ensures c.args.referring.row row_is
    c.at-table.result.now c.at-table.ensures c.fragment_of-fragment.result.now (c.fragment_of-fragment.ensures c.args.assoc of) c.in_ok-link.link c.in_ok-link.ensures
    c.as_slice-cols.result.now c.as_slice-cols.ensures.items c.in_ok-written_values.field-0 c.in_ok-written_values.ensures
    (record { name = c.in_ok-copy.field-0; key = c.in_ok-written_values.field-0; part = c.in_ok-copy-2.field-0 })
    (λ k. record { name = c.in_ok-copy.ensures k; key = c.in_ok-written_values.field-0; part = c.in_ok-copy-2.ensures k })
