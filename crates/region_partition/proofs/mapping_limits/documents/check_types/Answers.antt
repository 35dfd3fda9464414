use Rattle.std.proofs.Common.{Some, flat_map, ap, sym, ◌∙◌}
use Rattle.std.proofs.lemmas.Option.{slice_get-get_or}
use Rattle.emc_base.specs.Lists.{At}
use Rattle.round_trip.specs.Words.{EntityType}
use Rattle.region_partition.specs.mapping_limits.Checked.{fault_of, of_type}
use Rattle.region_partition.proofs.mapping_limits.Told.{handed_on}
use Rattle.region_partition.proofs.mapping_limits.Turns.{first_here}
use Rattle.region_partition.proofs.mapping_limits.documents.check_types.Goals as goal

-- the first type that passes the limit
pub returns-in_err-check_type : goal.returns-in_err-check_type
returns-in_err-check_type c =
    let types = c.args.types.now in
    let i = c.loop-ty.ty-index in
    let type : EntityType = c.ty-item.result in
    let found = c.in_err-check_type.field-0.0 in
    let here : At types i type = slice_get-get_or types i type c.loop-ty-test.true ∙ ap Some (sym c.ty-item.is) in
    handed_on (flat_map of_type types) found c.from_residual.result c.from_residual.ensures
    (first_here of_type types i type here c.loop-ty.invariant (fault_of found) c.in_err-check_type.ensures)
