-- What is answered on tables, by what loading them told.
use Rattle.std.proofs.Common.{◌≡◌, Result, Ok, Err, IfOk, inl, inr, sym, ap, subst}
use Rattle.emc_base.specs.Lists.{At}
use Rattle.emc_base.proofs.Mapped.{contains_at}
use Rattle.emc_base.specs.declared.memory.Memory.{Memory}
use Rattle.round_trip.specs.Words.{Place, Table}
use Rattle.schema_laws.proofs.state_demand.lists.Lists.{any_of}
use Rattle.mapping_core.specs.Words.{IsStateText, Loads, Schema, State, Tables}
use Rattle.mapping_core.specs.declared.loading.LoadFault.{LoadFault}
use Rattle.mapping_core.specs.declared.loading.LoadFault.TheVariants as load
use Rattle.mapping_run.specs.declared.answers.answer.Answer.{Answer}
use Rattle.mapping_run.specs.declared.answers.status.Status.TheVariants.{Done}
use Rattle.mapping_run.specs.answers.Answers.{NamesTable}
use Rattle.mapping_run.specs.answers.Loading.{GivesState, RefusesTables}
use Rattle.mapping_run.specs.answers.Says.{SaysSome}

module _ (schema : Schema) (tables : Tables) where
  -- the state that they tell is printed
  pub state_printed : (state : State) → Loads schema tables (Ok state) → (result : Result Answer Memory)
      → IfOk result (SaysSome (IsStateText schema state) Done) → IfOk result (GivesState schema tables)
  state_printed state loads (Ok answer) given = inr (loads.0, inr (state, loads.1, given))
  state_printed state loads (Err memory) given = tt

  -- or why they tell none
  pub refusal_told : (fault : LoadFault) → Loads schema tables (Err fault) → (result : Result Answer Memory) → IfOk result (RefusesTables schema fault)
      → IfOk result (GivesState schema tables)
  refusal_told fault loads (Err memory) given = tt
  refusal_told (load.Breach breach) loads (Ok answer) given = inl (breach, loads, given)
  refusal_told (load.NoCase place) loads (Ok answer) given = inr (loads.0, inl (load.NoCase place, loads.1, given))
  refusal_told (load.Illegal breach) loads (Ok answer) given = inr (loads.0, inl (load.Illegal breach, loads.1, given))
  refusal_told (load.Differs place one two) loads (Ok answer) given = inr (loads.0, inl (load.Differs place one two, loads.1, given))
  refusal_told load.Memory loads (Ok answer) given = absurd given

  -- a row that differs is in a table of the store
  pub names_table : (fault : LoadFault) → Loads schema tables (Err fault) → NamesTable schema fault
  names_table (load.Breach breach) loads = tt
  names_table (load.NoCase place) loads = tt
  names_table (load.Illegal breach) loads = tt
  names_table (load.Differs place one two) loads =
      let found = loads.1.why.first in
      let HasTable : Schema → Type 0 = λ one. At one.store.tables found.t.index found.table in
      let here : At schema.store.tables found.t.index found.table = subst HasTable loads.1.read_by.of_schema found.is_table in
      any_of (λ (table : Table). table.name ≡ place.name) schema.store.tables found.table (contains_at schema.store.tables found.t.index found.table here)
      (sym (ap (λ (one : Place). one.name) found.told))
  names_table load.Memory loads = tt
