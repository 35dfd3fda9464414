use Rattle.std.proofs.Common.{◌≡◌, Option, ap, ◌∙◌}
use Rattle.std.specs.Option.{option_map_or}
use Rattle.std.proofs.lemmas.Result.{IfOk-weaker}
use Rattle.round_trip.specs.Words.{Null, Pair, Value, cell_of}
use Rattle.regions.specs.region_laws.pattern.Described.{row_for}
use Rattle.region_states.specs.defaults.Defaults.{default_valuation}
use Rattle.region_states.specs.region_basis.BasisOf.{basis_of}
use Rattle.witness_state.specs.SmallLinks.{part_in_row}
use Rattle.witness_state.proofs.small_links.host_rows.part_in_row.Goals as goal

pub returns-in-Some : goal.returns-in-Some
returns-in-Some c =
    let row = row_for (default_valuation (basis_of c.args.parts.now) 0 c.args.region.now) c.args.row.now in
    IfOk-weaker c.cell_in.result (λ (value : Value). value ≡ cell_of row c.in-Some.pair.now.col) (λ (value : Value). value ≡ part_in_row row c.args.pairs.now c.args.property)
    (λ value is. is ∙ ap (λ (found : Option Pair). option_map_or (λ (pair : Pair). cell_of row pair.col) found Null) c.in-Some.ensures) c.cell_in.ensures
