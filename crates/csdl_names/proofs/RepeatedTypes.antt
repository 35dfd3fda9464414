-- Names that are given twice in a type, looked for at the place of the type.
use Rattle.std.proofs.Common.{◌≡◌, ◌↔◌, ℕ, codes, slice_get, MatchOption, Option, Some, Result, IfOk, sym, subst}
use Rattle.std.proofs.lemmas.Result.{IfOk-weaker}
use Rattle.groupings.specs.least_fault.Least.{IsLeast}
use Rattle.groupings.proofs.least_fault.Leasts.{least_same}
use Rattle.layouts.specs.declared.fault.Fault.{Fault}
use Rattle.layouts.specs.Faults.{fault_cmp}
use Rattle.layouts.specs.rule_places.Places.{InList}
use Rattle.layouts.proofs.rule_places.Rules.{in_list_at}
use Rattle.csdl_names.specs.declared.csdl_lists.raw.RawModel.{RawModel}
use Rattle.csdl_names.specs.declared.csdl_lists.raw.RawType.{RawType}
use Rattle.csdl_names.specs.Repeated.{IsRepeatedInType}

module _ (model : RawModel) where
  -- what is wrong with the type at a place, whatever stands beside
  abbrev pub IsWrongAt : ℕ → RawType → Fault → Type 0
  IsWrongAt i other fault = MatchOption (slice_get model.types i) ⊥ (λ type. IsRepeatedInType i type fault)

  at_place : (i : ℕ) (type : RawType) (fault : Fault) (found : Option RawType) → found ≡ Some type
      → (MatchOption found ⊥ (λ other. IsRepeatedInType i other fault) ↔ IsRepeatedInType i type fault)
  at_place i type fault found is =
      subst (λ (other : Option RawType). MatchOption other ⊥ (λ one. IsRepeatedInType i one fault) ↔ IsRepeatedInType i type fault) (sym is) (λ holds. holds, λ holds. holds)

  pub types_found : {E : Type 0} (found : Result (Option Fault) E) → IfOk found (IsLeast fault_cmp (InList (codes "EntityType") IsWrongAt model.types))
      → IfOk found (IsLeast fault_cmp (InList (codes "EntityType") IsRepeatedInType model.types))
  types_found found = IfOk-weaker found (IsLeast fault_cmp (InList (codes "EntityType") IsWrongAt model.types)) (IsLeast fault_cmp (InList (codes "EntityType") IsRepeatedInType model.types))
      (λ least. least_same fault_cmp (InList (codes "EntityType") IsWrongAt model.types) (InList (codes "EntityType") IsRepeatedInType model.types) least
      (in_list_at (codes "EntityType") IsWrongAt IsRepeatedInType model.types (λ i type here fault. (at_place i type fault (slice_get model.types i) here).0))
      (in_list_at (codes "EntityType") IsRepeatedInType IsWrongAt model.types (λ i type here fault. (at_place i type fault (slice_get model.types i) here).1)))
