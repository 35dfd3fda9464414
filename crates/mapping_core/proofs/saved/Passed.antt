-- Faults that are handed on.
use Rattle.std.proofs.Common.{◌≡◌, Result, Ok, Err, IsErrAnd, List, sym, subst}
use Rattle.round_trip.specs.Words.{EntityModel, State}
use Rattle.entity_changes.specs.Applying.{TellsApplied}
use Rattle.entity_changes.specs.declared.change.Change.{Change}
use Rattle.entity_changes.specs.declared.making.applied.ApplyFault.{ApplyFault}
use Rattle.entity_changes.specs.declared.making.applied.ApplyFault.TheVariants as apply
use Rattle.mapping_core.specs.declared.saving.fault.SaveFault.{SaveFault}
use Rattle.mapping_core.specs.states.SaveParts.{ChangesTo, IsOfApply}

module _ {X : Type 0} (P : Result X SaveFault → Type 0) where
  -- as it is
  pub passed : (fault : SaveFault) (result : Result X SaveFault) → IsErrAnd result (λ given. given ≡ fault) → P (Err fault) → P result
  passed fault (Ok x) is holds = absurd is
  passed fault (Err given) is holds = subst (λ one. P (Err one)) (sym is) holds

  -- as another
  pub passed_as : (Told : SaveFault → Type 0) (result : Result X SaveFault) → IsErrAnd result Told → ((fault : SaveFault) → Told fault → P (Err fault)) → P result
  passed_as Told (Ok x) is holds = absurd is
  passed_as Told (Err given) is holds = holds given is

-- what applying told
pub not_applied : (model : EntityModel) (changes : List Change) (old : State) (told : ApplyFault) → TellsApplied model old changes (Err told) → (fault : SaveFault)
    → IsOfApply told fault → ChangesTo model changes old (Err fault)
not_applied model changes old (apply.Refused index why) applied fault is = subst (λ one. ChangesTo model changes old (Err one)) (sym is) applied
not_applied model changes old apply.Memory applied fault is = subst (λ one. ChangesTo model changes old (Err one)) (sym is) tt
