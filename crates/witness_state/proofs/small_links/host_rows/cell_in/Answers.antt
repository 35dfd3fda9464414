use Rattle.std.proofs.Common.{◌≡◌, List, Option, unwrap_or, sym, ap, ◌∙◌}
use Rattle.std.specs.Option.{option_map}
use Rattle.std.proofs.lemmas.Result.{IfOk-weaker}
use Rattle.round_trip.specs.Words.{Null, Value, cell_of}
use Rattle.regions.specs.declared.pattern.Symbol.{Symbol}
use Rattle.regions.specs.region_laws.pattern.Described.{row_for, value_in}
use Rattle.region_states.specs.defaults.Defaults.{default_valuation}
use Rattle.region_states.specs.region_basis.BasisOf.{basis_of}
use Rattle.witness_state.proofs.links_small.HostRows.{cell_is}
use Rattle.witness_state.proofs.small_links.host_rows.cell_in.Goals as goal

pub returns-in-Some : goal.returns-in-Some
returns-in-Some c =
    let values = default_valuation (basis_of c.args.parts.now) 0 c.args.region.now in
    IfOk-weaker c.value_in.result (λ (value : Value). value ≡ value_in values c.as_slice.result.now) (λ (value : Value). value ≡ cell_of (row_for values c.args.row.now) c.args.col)
    (λ value is. is ∙ ap (value_in values) c.as_slice.ensures.items
    ∙ ap (λ (found : Option (List Symbol)). unwrap_or (option_map (value_in values) found) Null) c.in-Some.ensures.item
    ∙ sym (cell_is values c.args.row.now c.args.col)) c.value_in.ensures

pub returns-in-None : goal.returns-in-None
returns-in-None c =
    let values = default_valuation (basis_of c.args.parts.now) 0 c.args.region.now in
    ap (λ (found : Option (List Symbol)). unwrap_or (option_map (value_in values) found) Null) c.in-None.ensures.item
    ∙ sym (cell_is values c.args.row.now c.args.col)
