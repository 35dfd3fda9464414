-- Where no legal state fails, each region can be read, no two are rivals, and partners are few.
use Rattle.std.proofs.Common.{◌≡◌, ℕ, List, Bool, true, false, Contains, IsTrue, refl}
use Rattle.round_trip.specs.Words.{SetId, RoundTrips}
use Rattle.round_trip.specs.declared.FailKind.TheVariants as kind
use Rattle.cells.specs.Limits.{IsWithinLimits}
use Rattle.regions.specs.declared.region.Region.{Region}
use Rattle.regions.specs.declared.pattern.Focus.TheVariants as focus
use Rattle.regions.specs.Basis.{Basis}
use Rattle.regions.specs.Regions.{regions_of}
use Rattle.regions.specs.region_laws.IsBasis.{IsBasis}
use Rattle.regions.specs.region_laws.Partners.{HasFewPartners}
use Rattle.region_states.specs.conflicts.Conflicts.{IsConflictAt}
use Rattle.region_states.specs.conflicts.Facts.{disagrees_at}
use Rattle.region_states.specs.conflicts.SameFacts.{are_rivals, is_absent, is_lost}
use Rattle.region_states.specs.conflicts.There.{FailsThere}
use Rattle.region_states.specs.declared.conflicts.conflict.Conflict.{Conflict}
use Rattle.region_states.specs.declared.conflicts.conflict.Conflict.TheVariants as conflict
use Rattle.host_states.proofs.FewPartners.{few_by_clear}
use Rattle.conflict_laws.proofs.clash.Clear.{region_clear}
use Rattle.conflict_laws.proofs.Exact.{clear_states, exact}
use Rattle.case_laws.specs.Told.{IsReadable}

module _ (basis : Basis) (is : IsBasis basis) (limits : IsWithinLimits basis.schema) (round : RoundTrips basis.schema) (s : SetId) where
  -- there is no conflict by which states have the same tables
  never_same : (it : Conflict) → ¬ IsConflictAt basis s kind.Same it
  never_same it at =
      let fails : FailsThere basis s kind.Same = (exact basis is limits kind.Same (λ earlier less place c d. round earlier place c d) s).0 (it, at) in
      round kind.Same fails.place fails.c fails.d (record { legal = fails.legal; fails = fails.fails.0 })

  -- nor one by which a fragment disagrees
  pub never_disagrees : (region : Region) → Contains (regions_of basis s) region → (place : List ℕ) → ¬ IsTrue (disagrees_at basis (focus.Entity region) place)
  never_disagrees region listed place told =
      let fails : FailsThere basis s kind.Disagrees = (exact basis is limits kind.Disagrees (λ earlier less at c d. round earlier at c d) s).0
      (conflict.Disagree (focus.Entity region) place, record { of_kind = refl; of_set = listed; holds = told }) in
      round kind.Disagrees fails.place fails.c fails.d (record { legal = fails.legal; fails = fails.fails.0 })

  pub few : HasFewPartners basis s
  few = few_by_clear basis is limits (round kind.Clash) s

  -- what isn't so is computed to be false
  false_if : (b : Bool) → ¬ IsTrue b → b ≡ false
  false_if true never = absurd (never refl)
  false_if false never = refl

  pub readable : (region : Region) → Contains (regions_of basis s) region → IsReadable basis s region
  readable region listed = record {
    listed = listed;
    clear = region_clear basis (clear_states basis is limits (round kind.Clash)) s region listed;
    present = false_if (is_absent basis region) (λ absent. never_same (conflict.Absent region) (record { of_kind = refl; of_set = listed; holds = absent }));
    kept = λ p. false_if (is_lost basis region p) (λ lost. never_same (conflict.Lost region p) (record { of_kind = refl; of_set = listed; holds = lost }));
  }

  pub no_rivals : (one two : Region) → Contains (regions_of basis s) one → Contains (regions_of basis s) two → ¬ IsTrue (are_rivals basis one two)
  no_rivals one two has_one has_two rivals = never_same (conflict.Rival one two) (record { of_kind = refl; of_set = (has_one, has_two); holds = rivals })
