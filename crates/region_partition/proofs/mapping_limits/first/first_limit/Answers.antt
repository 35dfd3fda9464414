use Rattle.std.proofs.Common.{List, Some, slice_get, refl, sym, ap, ◌∙◌}
use Rattle.round_trip.specs.Words.{LimitFault}
use Rattle.region_states.specs.region_basis.BasisOf.{basis_of}
use Rattle.region_states.proofs.region_basis.Bases.{basis_told}
use Rattle.region_partition.proofs.mapping_limits.first.first_limit.Goals as goal

pub returns-in-Ok-clause-first : goal.returns-in-Ok-clause-first
returns-in-Ok-clause-first c =
    let parts = c.args.parts.now in
    record {
      basis = basis_of parts;
      is_basis = basis_told parts c.requires.sound c.requires.cells;
      of_schema = refl;
      is_first = ap (λ (limits : List LimitFault). slice_get limits 0) c.in-Ok.ensures.first;
    }

pub returns-in_ok-told-in-Err-clause-first : goal.returns-in_ok-told-in-Err-clause-first
returns-in_ok-told-in-Err-clause-first c =
    let parts = c.args.parts.now in
    record {
      basis = basis_of parts;
      is_basis = basis_told parts c.requires.sound c.requires.cells;
      of_schema = refl;
      is_first = c.in-Err.ensures.first ∙ ap Some (sym c.in_ok-told-in-Err.ensures);
    }
