-- A conflict that is found is one of which states are shown.
use Rattle.std.proofs.Common.{◌≡◌, inl, inr, sym, subst}
use Rattle.cells.specs.Parts.{AreParts, schema_in}
use Rattle.cells.specs.declared.parts.Parts.{Parts}
use Rattle.region_states.specs.conflicts.Conflicts.{kind_of}
use Rattle.region_states.specs.conflicts.There.{NoneFailsBefore}
use Rattle.region_states.specs.declared.conflicts.conflict.Conflict.{Conflict}
use Rattle.region_states.specs.region_basis.BasisOf.{basis_of}
use Rattle.round_trip.specs.declared.FailKind.{FailKind}
use Rattle.witness_state.specs.FirstConflict.{IsFirstConflict}
use Rattle.mapping_core.specs.mapping_verdict.Conflicts.{IsSomeConflict}

module _ (parts : Parts) (are : AreParts parts) (kind : FailKind) (earlier : NoneFailsBefore (schema_in parts) kind) (one : Conflict) where
  -- none fails before the kind of the conflict, which is this one
  before : kind_of one ≡ kind → NoneFailsBefore (schema_in parts) (kind_of one)
  before is_kind = subst (NoneFailsBefore (schema_in parts)) (sym is_kind) earlier

  pub first_is : IsSomeConflict (basis_of parts) kind one → IsFirstConflict parts one
  first_is (inl (s, at, so)) = record { are = are; of_one = inl (s, at.of_set); so = so; earlier = before at.of_kind }
  first_is (inr (a, at, so)) = record { are = are; of_one = inr (a, at.of_links); so = so; earlier = before at.of_kind }
