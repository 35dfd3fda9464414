-- What is wrong with a condition, by what it is on.
use Rattle.std.proofs.Common.{◌↔◌, ⊎_elim, List, MatchOption, Option, Some, None}
use Rattle.std.specs.Option.{option_map}
use Rattle.layouts.specs.declared.fault.Fault.{Fault}
use Rattle.round_trip.specs.Words.{Cond, CondOn, PropId}
use Rattle.round_trip.specs.soundness.mappings.Joined.{ComparesNoBarred}
use Rattle.msl_rules.specs.declared.msl_lists.raw.RawCond.{RawCond}
use Rattle.msl_rules.specs.Found.{on_in, test_of}
use Rattle.msl_meaning.specs.declared.msl_found.in_table.InTable.{InTable}
use Rattle.msl_meaning.specs.msl_found.NamedAt.{named_at}
use Rattle.msl_checks.specs.declared.msl_written.writing.Writing.{Writing}
use Rattle.msl_checks.specs.msl_written.Within.{ComparesBarred, kind_in, schema_in, table_in}
use Rattle.msl_checks.specs.msl_written.OnConditions.{IsForeign, IsKey, IsOn, IsValue}

-- of nothing that is made of something
pub made_of : {X Y : Type 0} (P : Y → Type 0) (f : X → Y) (o : Option X) → MatchOption o ⊥ (λ x. P (f x)) ↔ MatchOption (option_map f o) ⊥ P
made_of P f None = (λ never. never, λ never. never)
made_of P f (Some x) = (λ holds. holds, λ holds. holds)

never_some : {X : Type 0} (o : Option X) → ¬ MatchOption o ⊥ (λ x. ⊥)
never_some None never = never
never_some (Some x) never = never

-- what a condition is on, by look-ups in a table
abbrev pub on_by : RawCond → InTable → Option CondOn
on_by cond found = on_in found.names.now.model.now found.names.now.store.now (named_at found.names.now.model.now found.ty) found.table cond

module _ (writing : Writing) (key : List PropId) (cond : RawCond) where
  -- nothing of these is wrong with a condition that is on nothing
  pub on_nothing : (fault : Fault) → ¬ IsOn writing key cond None fault
  on_nothing fault =
      ⊎_elim (λ (value : IsValue writing key cond None fault). never_some cond.value value.0)
      (⊎_elim (λ (of_key : IsKey writing key cond None fault). of_key.0) (λ (foreign : IsForeign writing key cond None fault). foreign.0))

  -- what compares with what is barred
  pub compares : (what : CondOn) → ComparesBarred writing what cond
      ↔ MatchOption (option_map (λ test. record { on = what; test = test }) (test_of (kind_in writing what) cond.value cond.is_null)) ⊥
      (λ (meant : Cond). ¬ ComparesNoBarred (schema_in writing.between) (table_in writing) meant)
  compares what = made_of (λ (meant : Cond). ¬ ComparesNoBarred (schema_in writing.between) (table_in writing) meant) (λ test. record { on = what; test = test })
      (test_of (kind_in writing what) cond.value cond.is_null)
