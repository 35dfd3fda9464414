-- What is told of saving, by what its parts told.
use Rattle.std.proofs.Common.{◌≡◌, ℕ, List, Ok, Err, inl, refl, sym, subst}
use Rattle.round_trip.specs.Words.{Schema, State, Tables}
use Rattle.entity_changes.specs.Changes.{after}
use Rattle.entity_changes.specs.declared.change.Change.{Change}
use Rattle.row_changes.specs.Differences.{AreBothLegal}
use Rattle.row_changes.specs.declared.change.RowChange.{RowChange}
use Rattle.row_changes.proofs.leading.Leads.{leads}
use Rattle.round_trip.specs.soundness.Stores.{IsSoundStore}
use Rattle.mapping_core.specs.declared.loading.LoadFault.{LoadFault}
use Rattle.mapping_core.specs.declared.loading.LoadFault.TheVariants as load
use Rattle.mapping_core.specs.declared.saving.fault.SaveFault.{SaveFault}
use Rattle.mapping_core.specs.declared.saving.fault.SaveFault.TheVariants.{Load, Refused, Breach, FreeReference, Circular, Memory}
use Rattle.mapping_core.specs.states.Loads.{Loads}
use Rattle.mapping_core.specs.states.Saves.{AreKeptAfter, AreSaved, LeadTo, Saves, Tell}
use Rattle.mapping_core.specs.states.SaveParts.{AreKeptInKeyOrder, CanBePlannedFor, ChangesTo, CountsPlanned, IsOfLoad, KeepsTables, PlansForKept}
use Rattle.mapping_core.specs.states.SaveSteps.{CountsSteps}

module _ (schema : Schema) (tables : Tables) (changes : List Change) where
  -- what loading told, where it told no state
  pub not_loaded : (told : LoadFault) (fault : SaveFault) → IsOfLoad told fault → Loads schema tables (Err told) → Saves schema tables changes (Err fault)
  not_loaded load.Memory fault is loads = subst (λ one. Saves schema tables changes (Err one)) (sym is) tt
  not_loaded (load.Breach breach) fault is loads = subst (λ one. Saves schema tables changes (Err one)) (sym is) (loads, λ same. cc)
  not_loaded (load.NoCase place) fault is loads = subst (λ one. Saves schema tables changes (Err one)) (sym is) (loads, λ same. cc)
  not_loaded (load.Illegal breach) fault is loads = subst (λ one. Saves schema tables changes (Err one)) (sym is) (loads, λ same. cc)
  not_loaded (load.Differs place held demanded) fault is loads = subst (λ one. Saves schema tables changes (Err one)) (sym is) (loads, λ same. cc)

  pub no_step_loaded : (told : LoadFault) (fault : SaveFault) → IsOfLoad told fault → (before now : ℕ) → now ≡ before → CountsSteps schema tables changes before now (Err fault)
  no_step_loaded load.Memory fault is before now same = subst (λ one. CountsSteps schema tables changes before now (Err one)) (sym is) (inl same)
  no_step_loaded (load.Breach breach) fault is before now same = subst (λ one. CountsSteps schema tables changes before now (Err one)) (sym is) same
  no_step_loaded (load.NoCase place) fault is before now same = subst (λ one. CountsSteps schema tables changes before now (Err one)) (sym is) same
  no_step_loaded (load.Illegal breach) fault is before now same = subst (λ one. CountsSteps schema tables changes before now (Err one)) (sym is) same
  no_step_loaded (load.Differs place held demanded) fault is before now same = subst (λ one. CountsSteps schema tables changes before now (Err one)) (sym is) same

  module _ (old : State) (told : Tell schema tables old) where
    -- what changing told, where it told no legal state
    pub not_changed : (fault : SaveFault) → ChangesTo schema.model changes old (Err fault) → Saves schema tables changes (Err fault)
    not_changed (Load other) never = absurd never
    not_changed (Refused index why) refusal = record { state = old; told = told; refusal = refusal }
    not_changed (Breach breach) breaks = record {
      old = old;
      new = after schema.model old changes;
      lead = record { told = told; accepted = breaks.0; leads = refl };
      breaks = breaks.1;
    }
    not_changed (FreeReference place) never = absurd never
    not_changed (Circular ring) never = absurd never
    not_changed Memory is = tt

    pub no_step_changed : (fault : SaveFault) → ChangesTo schema.model changes old (Err fault) → (before now : ℕ) → now ≡ before → CountsSteps schema tables changes before now (Err fault)
    no_step_changed (Load other) never before now same = absurd never
    no_step_changed (Refused index why) is before now same = same
    no_step_changed (Breach breach) is before now same = same
    no_step_changed (FreeReference place) never before now same = absurd never
    no_step_changed (Circular ring) never before now same = absurd never
    no_step_changed Memory is before now same = inl same

    module _ (new : State) (changed : ChangesTo schema.model changes old (Ok new)) where
      pub lead : LeadTo schema tables changes old new
      lead = record { told = told; accepted = changed.0; leads = changed.1 }

      keep : (kept : Tables) → AreKeptInKeyOrder schema tables new kept → AreKeptAfter schema tables changes old new kept
      keep kept are = record { lead = lead; legal = changed.2; are = are.are; in_order = are.in_order }

      -- what keeping told, where it told no legal tables
      pub not_kept : (fault : SaveFault) → KeepsTables schema tables new (Err fault) → Saves schema tables changes (Err fault)
      not_kept (Load other) never = absurd never
      not_kept (Refused index why) never = absurd never
      not_kept (Breach breach) never = absurd never
      not_kept (FreeReference place) is = record { old = old; new = new; kept = is.0; are = keep is.0 is.1; breaks = is.2 }
      not_kept (Circular ring) never = absurd never
      not_kept Memory is = tt

      pub no_step_kept : (fault : SaveFault) → KeepsTables schema tables new (Err fault) → (before now : ℕ) → now ≡ before → CountsSteps schema tables changes before now (Err fault)
      no_step_kept (Load other) never before now same = absurd never
      no_step_kept (Refused index why) never before now same = absurd never
      no_step_kept (Breach breach) never before now same = absurd never
      no_step_kept (FreeReference place) is before now same = same
      no_step_kept (Circular ring) never before now same = absurd never
      no_step_kept Memory is before now same = inl same

      module _ (kept : Tables) (keeps : KeepsTables schema tables new (Ok kept)) where
        pub can_be_planned : CanBePlannedFor schema tables changes old new
        can_be_planned = record { lead = lead; legal = changed.2; kept = kept; are_kept = keeps.0.are; legal_kept = keeps.1 }

        -- what planning told
        pub not_planned : (fault : SaveFault) → PlansForKept schema tables new (Err fault) → Saves schema tables changes (Err fault)
        not_planned (Load other) plans = absurd (plans kept keeps.0.are keeps.1)
        not_planned (Refused index why) plans = absurd (plans kept keeps.0.are keeps.1)
        not_planned (Breach breach) plans = absurd (plans kept keeps.0.are keeps.1)
        not_planned (FreeReference place) plans = absurd (plans kept keeps.0.are keeps.1)
        not_planned (Circular ring) plans =
            let is = plans kept keeps.0.are keeps.1 in
            record { old = old; new = new; kept = kept; are = keep kept keeps.0; legal = keeps.1; cycle = is.0; changes_are = is.1 }
        not_planned Memory plans = tt

        pub steps_not_planned : (fault : SaveFault) (before now : ℕ) → CountsPlanned schema tables changes before now (Err fault) → CountsSteps schema tables changes before now (Err fault)
        steps_not_planned (Load other) before now never = absurd never
        steps_not_planned (Refused index why) before now never = absurd never
        steps_not_planned (Breach breach) before now never = absurd never
        steps_not_planned (FreeReference place) before now never = absurd never
        steps_not_planned (Circular ring) before now counts = counts
        steps_not_planned Memory before now counts = counts

        pub saved : IsSoundStore schema.store → (planned : List RowChange) → PlansForKept schema tables new (Ok planned) → AreSaved schema tables changes (record { tables = kept; changes = planned })
        saved sound planned plans =
            let is = plans kept keeps.0.are keeps.1 in
            let both : AreBothLegal schema.store tables kept = record { sound = sound; old_legal = told.legal; new_legal = keeps.1 } in
            record {
              old = old;
              new = new;
              kept = keep kept keeps.0;
              legal = keeps.1;
              all = is.0;
              steps = is.1;
              leads = leads schema.store tables kept both planned is.0;
            }
