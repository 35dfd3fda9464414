use Rattle.std.proofs.Common.{◌≡◌, [], List, Result, Ok, Err, IfOk}
use Rattle.std.specs.Bool.{⊤}
use Rattle.round_trip.specs.Words.{LimitFault}
use Rattle.region_states.specs.region_basis.BasisOf.{basis_of}
use Rattle.region_partition.specs.declared.mapping_limits.passed.Passed.{Passed}
use Rattle.region_partition.specs.mapping_limits.Checked.{TellsFirst}
use Rattle.region_partition.specs.mapping_limits.FirstLimit.{limits_passed}
use Rattle.region_partition.proofs.mapping_limits.Bases.{are_parts, few_regions}
use Rattle.region_partition.proofs.mapping_limits.InTurn.{constants_first, mapping_first, model_first, regions_last, store_first}
use Rattle.region_partition.proofs.mapping_limits.Told.{handed_on}
use Rattle.region_partition.proofs.mapping_limits.first.check_limits.Goals as goal

-- the first limit that is passed is that of the first check that finds one
pub returns-in_err-check_model-clause-first : goal.returns-in_err-check_model-clause-first
returns-in_err-check_model-clause-first c =
    let basis = basis_of c.args.parts.now in
    let found = c.in_err-check_model.field-0.0 in
    handed_on (limits_passed basis) found c.from_residual.result c.from_residual.ensures (model_first basis found c.in_err-check_model.ensures)

pub returns-in_err-check_store-clause-first : goal.returns-in_err-check_store-clause-first
returns-in_err-check_store-clause-first c =
    let basis = basis_of c.args.parts.now in
    let found = c.in_err-check_store.field-0.0 in
    handed_on (limits_passed basis) found c.from_residual-in_err-check_store.result c.from_residual-in_err-check_store.ensures (store_first basis found c.in_ok-check_model.ensures c.in_err-check_store.ensures)

pub returns-in_err-check_mapping-clause-first : goal.returns-in_err-check_mapping-clause-first
returns-in_err-check_mapping-clause-first c =
    let basis = basis_of c.args.parts.now in
    let found = c.in_err-check_mapping.field-0.0 in
    handed_on (limits_passed basis) found c.from_residual-in_err-check_mapping.result c.from_residual-in_err-check_mapping.ensures
    (mapping_first basis found c.in_ok-check_model.ensures c.in_ok-check_store.ensures c.in_err-check_mapping.ensures)

pub returns-in_err-check_constants-clause-first : goal.returns-in_err-check_constants-clause-first
returns-in_err-check_constants-clause-first c =
    let basis = basis_of c.args.parts.now in
    let found = c.in_err-check_constants.field-0.0 in
    handed_on (limits_passed basis) found c.from_residual-in_err-check_constants.result c.from_residual-in_err-check_constants.ensures
    (constants_first basis found c.in_ok-check_model.ensures c.in_ok-check_store.ensures c.in_ok-check_mapping.ensures c.in_err-check_constants.ensures)

pub returns-clause-first : goal.returns-clause-first
returns-clause-first c = regions_last (basis_of c.args.parts.now) c.check_regions.result c.in_ok-check_model.ensures c.in_ok-check_store.ensures
    c.in_ok-check_mapping.ensures c.in_ok-check_constants.ensures c.check_regions.ensures

-- what is so anyway is so where a result is good
for_any : {T E : Type 0} (result : Result T E) (P : Type 0) → P → IfOk result (λ _. P)
for_any (Ok value) P is = is
for_any (Err fault) P is = tt

pub check_regions-requires : goal.check_regions-requires
check_regions-requires c = are_parts c.args.parts.now c.requires.sound c.requires.cells c.in_ok-check_model.ensures c.in_ok-check_constants.ensures

pub returns-clause-parts : goal.returns-clause-parts
returns-clause-parts c = for_any c.check_regions.result _ (are_parts c.args.parts.now c.requires.sound c.requires.cells c.in_ok-check_model.ensures c.in_ok-check_constants.ensures)

-- where a result is good none of the limits is passed
where_good : (limits : List LimitFault) (result : Result ⊤ Passed) (P : Type 0) → TellsFirst limits result → (limits ≡ [] → P) → IfOk result (λ _. P)
where_good limits (Ok value) P told by = by told
where_good limits (Err fault) P told by = tt

pub returns-clause-few : goal.returns-clause-few
returns-clause-few c = where_good _ c.check_regions.result _ c.check_regions.ensures (few_regions (basis_of c.args.parts.now))
