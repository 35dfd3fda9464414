-- Whether what a conflict tells is so is computed.
use Rattle.std.proofs.Common.{◌⊎◌, inl, inr, ℕ, List, IsTrue, sym, subst, arith}
use Rattle.round_trip.specs.Words.{AssocId, ColId, SetId, TableId}
use Rattle.round_trip.specs.declared.FailKind.TheVariants as kind
use Rattle.cells.specs.Limits.{IsWithinLimits}
use Rattle.regions.specs.declared.pattern.Focus.{Focus}
use Rattle.regions.specs.declared.pattern.Focus.TheVariants as focus
use Rattle.regions.specs.declared.pattern.Symbol.{Symbol}
use Rattle.regions.specs.Basis.{Basis}
use Rattle.regions.specs.region_laws.IsBasis.{IsBasis}
use Rattle.regions.specs.region_laws.pattern.Allowed.{IsFocus}
use Rattle.region_states.specs.conflicts.Conflicts.{IsLinkOf, IsRegionOf, IsTableOf, is_fact, kind_of}
use Rattle.region_states.specs.conflicts.Facts.{disagrees_at, is_clash, is_null_in}
use Rattle.region_states.specs.conflicts.There.{NoneFailsBefore, NoneFailsBy}
use Rattle.region_states.specs.declared.conflicts.conflict.Conflict.{Conflict}
use Rattle.region_states.specs.declared.conflicts.conflict.Conflict.TheVariants as conflict
use Rattle.conflict_laws.proofs.Exact.{small_states}
use Rattle.failure_laws.specs.Facts.{Disagrees, IsSo, LacksValue, SymbolsDiffer, TellsOfOne}
use Rattle.failure_laws.proofs.witness.facts.Associations.{many_computed, many_so, unmapped_computed, unmapped_so}
use Rattle.failure_laws.proofs.witness.facts.Clashing.{clash_computed, clash_so}
use Rattle.failure_laws.proofs.witness.facts.Differing.{region_differs_computed, region_differs_so}
use Rattle.failure_laws.proofs.witness.facts.Hiding.{link_hides_computed, link_hides_so}
use Rattle.failure_laws.proofs.witness.facts.LeftOut.{absent_computed, absent_so, lost_computed, lost_so}
use Rattle.failure_laws.proofs.witness.facts.LinkClashes.{link_clash_so}
use Rattle.failure_laws.proofs.witness.facts.LinkValues.{is_link_focus}
use Rattle.failure_laws.proofs.witness.facts.Nulls.{link_null_so, null_computed, region_null_so}
use Rattle.failure_laws.proofs.witness.facts.Rivals.{rivals_computed, rivals_so}

module _ (basis : Basis) (is : IsBasis basis) where
  -- a region of a set, or a link of an association that has a table of its own
  abbrev pub IsTold : Focus → Type 0
  IsTold of = ((s : SetId) × IsRegionOf basis s of) ⊎ ((a : AssocId) × IsLinkOf basis a of)

  -- the table of the link that is told
  pub table_told : (a b : AssocId) → IsLinkOf basis b (focus.Link a) → (t : TableId) × IsTableOf basis a t
  table_told a b (same, t, of) = let P : AssocId → Type 0 = λ c. IsTableOf basis c t in (t, subst P (sym same) of)

  focus_told : (of : Focus) → IsTold of → IsFocus basis of
  focus_told (focus.Entity region) (inl told) = told
  focus_told (focus.Entity region) (inr (a, never)) = absurd never
  focus_told (focus.Link a) (inl (s, never)) = absurd never
  focus_told (focus.Link a) (inr (b, of)) = let own = table_told a b of in is_link_focus basis is a own.0 own.1

  module _ (limits : IsWithinLimits basis.schema) where
    clash_told : (of : Focus) → IsTold of → (t : TableId) (col : ColId) (one two : Symbol) → IsTrue (is_clash basis of t col one two) → SymbolsDiffer basis of t col one two
    clash_told (focus.Entity region) (inl (s, has)) t col one two told = clash_so basis is limits s region has t col one two told
    clash_told (focus.Entity region) (inr (a, never)) t col one two told = absurd never
    clash_told (focus.Link a) (inl (s, never)) t col one two told = absurd never
    clash_told (focus.Link a) (inr (b, of)) t col one two told = let own = table_told a b of in link_clash_so basis is a own.0 own.1 t col limits one two told

    null_told : (of : Focus) → IsTold of → (t : TableId) (col : ColId) (one : Symbol) → IsTrue (is_null_in basis of t col one) → LacksValue basis of t col one
    null_told (focus.Entity region) (inl (s, has)) t col one told = region_null_so basis is limits s region has t col one told
    null_told (focus.Entity region) (inr (a, never)) t col one told = absurd never
    null_told (focus.Link a) (inl (s, never)) t col one told = absurd never
    null_told (focus.Link a) (inr (b, of)) t col one told = let own = table_told a b of in link_null_so basis is limits a own.0 own.1 t col one told

    -- where no legal state clashes
    differs_told : (of : Focus) → IsTold of → (place : List ℕ) → NoneFailsBy basis.schema kind.Clash → IsTrue (disagrees_at basis of place) → Disagrees basis of place
    differs_told (focus.Entity region) (inl (s, has)) place none told = region_differs_so basis (small_states basis is limits none).clear s region has place told
    differs_told (focus.Entity region) (inr (a, never)) place none told = absurd never
    differs_told (focus.Link a) (inl (s, never)) place none told = absurd never
    differs_told (focus.Link a) (inr (b, of)) place none told = let own = table_told a b of in link_hides_so basis is limits none a own.0 own.1 place told

    differs_computed : (of : Focus) → IsTold of → (place : List ℕ) → NoneFailsBy basis.schema kind.Clash → Disagrees basis of place → IsTrue (disagrees_at basis of place)
    differs_computed (focus.Entity region) (inl (s, has)) place none so = region_differs_computed basis (small_states basis is limits none).clear s region has place so
    differs_computed (focus.Entity region) (inr (a, never)) place none so = absurd never
    differs_computed (focus.Link a) (inl (s, never)) place none so = absurd never
    differs_computed (focus.Link a) (inr (b, of)) place none so = let own = table_told a b of in link_hides_computed basis is limits none a own.0 own.1 place so

    -- what is so is computed
    pub fact_computed : (one : Conflict) → TellsOfOne basis one → NoneFailsBefore basis.schema (kind_of one) → IsSo basis one → IsTrue (is_fact basis one)
    fact_computed (conflict.Clash of t col one two) tells before so = clash_computed basis is of (focus_told of tells) t col one two so
    fact_computed (conflict.ManyLinks a) tells before so = many_computed basis a is so
    fact_computed (conflict.NullIn of t col one) tells before so = null_computed basis is of t col one (focus_told of tells) so
    fact_computed (conflict.Disagree of place) tells before so = differs_computed of tells place (before kind.Clash (omega arith)) so
    fact_computed (conflict.Absent region) tells before so = absent_computed basis region so
    fact_computed (conflict.Rival one two) (inl (s, has)) before so =
        rivals_computed basis (small_states basis is limits (before kind.Clash (omega arith))).clear s one two has.0 has.1 so
    fact_computed (conflict.Rival one two) (inr (a, never)) before so = absurd never
    fact_computed (conflict.Lost region p) tells before so = lost_computed basis region p so
    fact_computed (conflict.Unmapped a) tells before so = unmapped_computed basis a so

    -- and what is computed is so
    pub fact_so : (one : Conflict) → TellsOfOne basis one → NoneFailsBefore basis.schema (kind_of one) → IsTrue (is_fact basis one) → IsSo basis one
    fact_so (conflict.Clash of t col one two) tells before told = clash_told of tells t col one two told
    fact_so (conflict.ManyLinks a) tells before told = many_so basis a told
    fact_so (conflict.NullIn of t col one) tells before told = null_told of tells t col one told
    fact_so (conflict.Disagree of place) tells before told = differs_told of tells place (before kind.Clash (omega arith)) told
    fact_so (conflict.Absent region) tells before told = absent_so basis region told
    fact_so (conflict.Rival one two) (inl (s, has)) before told =
        rivals_so basis (small_states basis is limits (before kind.Clash (omega arith))).clear s one two has.0 has.1 told
    fact_so (conflict.Rival one two) (inr (a, never)) before told = absurd never
    fact_so (conflict.Lost region p) tells before told = lost_so basis region p told
    fact_so (conflict.Unmapped a) tells before told = unmapped_so basis a told
