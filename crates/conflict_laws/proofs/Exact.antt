-- Conflicts are exact: kind by kind, by the laws of each.
use Rattle.std.proofs.Common.{◌↔◌, arith}
use Rattle.round_trip.specs.Words.{SetId}
use Rattle.round_trip.specs.declared.FailKind.{FailKind}
use Rattle.round_trip.specs.declared.FailKind.TheVariants as variant
use Rattle.cells.specs.Limits.{IsWithinLimits}
use Rattle.regions.specs.Basis.{Basis}
use Rattle.regions.specs.region_laws.IsBasis.{IsBasis}
use Rattle.region_states.specs.declared.conflicts.conflict.Conflict.{Conflict}
use Rattle.region_states.specs.declared.conflicts.conflict.Conflict.TheVariants as conflict
use Rattle.region_states.specs.conflicts.Conflicts.{IsConflictAt}
use Rattle.region_states.specs.conflicts.There.{FailsThere, NoneFailsBefore, NoneFailsBy}
use Rattle.host_states.specs.FocusStates.{focus_state, leaving_states, rival_states}
use Rattle.host_states.specs.SmallStates.{small_focus, small_leaving, small_rivals}
use Rattle.host_states.proofs.FewPartners.{few_by_clear}
use Rattle.host_states.proofs.Hosts.{states_host, states_leave, states_rival}
use Rattle.host_states.proofs.small.SmallHosts.{small_host, small_leave, small_rival}
use Rattle.conflict_laws.proofs.clash.Fails.{fails_there}
use Rattle.conflict_laws.proofs.clash.Told.{clash_told}
use Rattle.conflict_laws.proofs.null.Failing.{null_there}
use Rattle.conflict_laws.proofs.null.Telling.{null_told}
use Rattle.conflict_laws.proofs.disagreement.Failing.{there}
use Rattle.conflict_laws.proofs.disagreement.Told.{told}
use Rattle.conflict_laws.specs.States.{ClearStates, FocusStates, RivalStates}
use Rattle.conflict_laws.proofs.same.There.{same_there}
use Rattle.conflict_laws.proofs.same.ToldThere.{same_told}

module _ (basis : Basis) (is : IsBasis basis) (limits : IsWithinLimits basis.schema) where
  -- each region has a state with an entity of it
  abbrev pub focuses : FocusStates basis
  focuses = record { is_basis = is; limits = limits; state = focus_state basis 0; hosts = states_host basis is limits 0 (omega (arith)) }

  -- where no legal state clashes, they are the states that the laws ask for
  abbrev pub clear_states : NoneFailsBy basis.schema variant.Clash → ClearStates basis
  clear_states clear = record { given = focuses; no_clash = clear }

  states : NoneFailsBy basis.schema variant.Clash → RivalStates basis
  states clear = record {
    clear = clear_states clear;
    rivals = rival_states basis 0;
    hold = states_rival basis is limits 0 (omega (arith));
    leaving = leaving_states basis 0;
    leave = states_leave basis is limits 0 (omega (arith));
    few = few_by_clear basis is limits clear;
  }

  -- and so are their small parts
  abbrev pub small_states : NoneFailsBy basis.schema variant.Clash → RivalStates basis
  small_states clear = record {
    clear = record {
      given = record { is_basis = is; limits = limits; state = small_focus basis 0; hosts = small_host basis is limits 0 (omega (arith)) };
      no_clash = clear;
    };
    rivals = small_rivals basis 0;
    hold = small_rival basis is limits 0 (omega (arith));
    leaving = small_leaving basis 0;
    leave = small_leave basis is limits 0 (omega (arith));
    few = few_by_clear basis is limits clear;
  }

  -- no conflict is of the kind dangling
  never_dangling : (found : Conflict) (s : SetId) → IsConflictAt basis s variant.Dangling found → ⊥
  never_dangling (conflict.Clash focus t col one two) s is_at = (let kind = is_at.of_kind in cc)
  never_dangling (conflict.NullIn focus t col one) s is_at = (let kind = is_at.of_kind in cc)
  never_dangling (conflict.Disagree focus place) s is_at = (let kind = is_at.of_kind in cc)
  never_dangling (conflict.Absent region) s is_at = (let kind = is_at.of_kind in cc)
  never_dangling (conflict.Rival one two) s is_at = (let kind = is_at.of_kind in cc)
  never_dangling (conflict.Lost region p) s is_at = (let kind = is_at.of_kind in cc)
  never_dangling (conflict.ManyLinks a) s is_at = is_at.of_set
  never_dangling (conflict.Unmapped a) s is_at = is_at.of_set

  -- each kind by its laws
  pub exact : (kind : FailKind) → NoneFailsBefore basis.schema kind → (s : SetId)
      → ((found : Conflict) × IsConflictAt basis s kind found) ↔ FailsThere basis s kind
  exact variant.Clash before s = (λ found. fails_there basis focuses s found.0 found.1, clash_told basis is limits s)
  exact variant.Null before s =
      let clear = clear_states (before variant.Clash (omega (arith))) in
      (λ found. null_there basis clear s found.0 found.1, null_told basis is s (few_by_clear basis is limits (before variant.Clash (omega (arith))) s))
  exact variant.Disagrees before s =
      let clear = clear_states (before variant.Clash (omega (arith))) in
      (λ found. there basis clear s found.0 found.1, told basis clear s (few_by_clear basis is limits clear.no_clash s))
  exact variant.Dangling before s = (λ found. absurd (never_dangling found.0 s found.1), λ fails. absurd fails.fails)
  exact variant.Same before s =
      let all = states (before variant.Clash (omega (arith))) in
      (λ found. same_there basis all s found.0 found.1, same_told basis all (before variant.Disagrees (omega (arith))) s)
