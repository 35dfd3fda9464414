-- The states that are shown of a conflict fail by its kind, at each place that is told of it.
use Rattle.std.proofs.Common.{inl, inr, IsTrue, arith, unwrap_or}
use Rattle.round_trip.specs.Words.{FailsAt, Place}
use Rattle.round_trip.specs.declared.FailKind.TheVariants as kind
use Rattle.cells.specs.Limits.{IsWithinLimits}
use Rattle.regions.specs.declared.pattern.Focus.TheVariants as focus
use Rattle.regions.specs.Basis.{Basis}
use Rattle.regions.specs.region_laws.IsBasis.{IsBasis}
use Rattle.region_states.specs.conflicts.Conflicts.{is_fact, kind_of}
use Rattle.region_states.specs.conflicts.There.{NoneFailsBefore, NoneFailsBy}
use Rattle.region_states.specs.defaults.Defaults.{default_valuation}
use Rattle.region_states.specs.declared.conflicts.conflict.Conflict.{Conflict}
use Rattle.region_states.specs.declared.conflicts.conflict.Conflict.TheVariants as conflict
use Rattle.host_states.specs.SmallStates.{small_focus}
use Rattle.conflict_laws.specs.clash.ClashValues.{clash_values}
use Rattle.failure_laws.specs.Facts.{IsSo, TellsOfOne}
use Rattle.failure_laws.specs.Places.{IsPlaceOf}
use Rattle.failure_laws.specs.Witnesses.{witness_of}
use Rattle.failure_laws.proofs.witness.Computed.{fact_computed, table_told}
use Rattle.failure_laws.proofs.witness.Links.{link_clash_shown, link_disagreement_shown, link_null_shown, shared_links_shown, unmapped_shown}
use Rattle.failure_laws.proofs.witness.regions.Cells.{region_clash_fails, region_null_fails}
use Rattle.failure_laws.proofs.witness.regions.Disagreements.{region_disagreement_fails}
use Rattle.failure_laws.proofs.witness.regions.Same.{absent_pair_fails, lost_pair_fails, rival_pair_fails}

module _ (basis : Basis) (is : IsBasis basis) (limits : IsWithinLimits basis.schema) where
  abbrev IsShownAt : Conflict → Place → Type 0
  IsShownAt one place = FailsAt basis.schema (kind_of one) place (witness_of basis one).0 (unwrap_or (witness_of basis one).1 (witness_of basis one).0)

  -- by what is computed
  shown : (one : Conflict) → TellsOfOne basis one → IsSo basis one → IsTrue (is_fact basis one) → NoneFailsBefore basis.schema (kind_of one) → (place : Place)
      → IsPlaceOf basis one place → IsShownAt one place
  shown (conflict.Clash (focus.Entity region) t col one two) (inl (s, has)) so told before place at =
      region_clash_fails basis is limits s region has t col place one two told at (small_focus basis 0 region (clash_values basis region one two))
  shown (conflict.Clash (focus.Entity region) t col one two) (inr (a, never)) so told before place at = absurd never
  shown (conflict.Clash (focus.Link a) t col one two) tells so told before place at = link_clash_shown basis is limits a place t col at one two told
  shown (conflict.ManyLinks a) tells so told before place at = shared_links_shown basis is limits a place so at
  shown (conflict.NullIn (focus.Entity region) t col one) (inl (s, has)) so told before place at =
      region_null_fails basis is limits s region has t col place (before kind.Clash (omega arith)) one told at (small_focus basis 0 region (default_valuation basis 0 region))
  shown (conflict.NullIn (focus.Entity region) t col one) (inr (a, never)) so told before place at = absurd never
  shown (conflict.NullIn (focus.Link a) t col one) tells so told before place at =
      link_null_shown basis is limits a place t col at (before kind.Clash (omega arith)) one told
  shown (conflict.Disagree (focus.Entity region) name) (inl (s, has)) so told before place at =
      region_disagreement_fails basis is limits (before kind.Clash (omega arith)) s region has name place told at (small_focus basis 0 region (default_valuation basis 0 region))
  shown (conflict.Disagree (focus.Entity region) name) (inr (a, never)) so told before place at = absurd never
  shown (conflict.Disagree (focus.Link a) name) (inl (s, never)) so told before place at = absurd never
  shown (conflict.Disagree (focus.Link a) name) (inr (b, of)) so told before place at =
      let own = table_told basis is a b of in
      link_disagreement_shown basis is limits a place (before kind.Clash (omega arith)) own.0 own.1 name told at
  shown (conflict.Absent region) (inl (s, has)) so told before place at = absent_pair_fails basis is limits (before kind.Clash (omega arith)) s place region has told at
  shown (conflict.Absent region) (inr (a, never)) so told before place at = absurd never
  shown (conflict.Rival one two) (inl (s, has)) so told before place at =
      rival_pair_fails basis is limits (before kind.Clash (omega arith)) s place one two has.0 has.1 told at
  shown (conflict.Rival one two) (inr (a, never)) so told before place at = absurd never
  shown (conflict.Lost region p) (inl (s, has)) so told before place at = lost_pair_fails basis is limits (before kind.Clash (omega arith)) s place region has p told at
  shown (conflict.Lost region p) (inr (a, never)) so told before place at = absurd never
  shown (conflict.Unmapped a) tells so told before place at = unmapped_shown basis is limits a place (before kind.Clash (omega arith)) so at

  pub witness_fails : (one : Conflict) → TellsOfOne basis one → IsSo basis one → NoneFailsBefore basis.schema (kind_of one) → (place : Place) → IsPlaceOf basis one place
      → FailsAt basis.schema (kind_of one) place (witness_of basis one).0 (unwrap_or (witness_of basis one).1 (witness_of basis one).0)
  witness_fails one tells so before = shown one tells so (fact_computed basis is limits one tells before so) before
