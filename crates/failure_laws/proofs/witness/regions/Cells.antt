-- The small state with an entity of a region fails at each place that is told of two symbols that can differ, and of a symbol that stands for null.
use Rattle.std.proofs.Common.{Contains, IsTrue, sym, subst, arith}
use Rattle.round_trip.specs.Words.{ColId, FailsAt, Place, SetId, State, TableId}
use Rattle.round_trip.specs.declared.FailKind.TheVariants as kind
use Rattle.cells.specs.Limits.{IsWithinLimits}
use Rattle.regions.specs.declared.region.Region.{Region}
use Rattle.regions.specs.declared.pattern.Focus.TheVariants as focus
use Rattle.regions.specs.declared.pattern.Symbol.{Symbol}
use Rattle.regions.specs.Basis.{Basis}
use Rattle.regions.specs.Patterns.{Valuation}
use Rattle.regions.specs.Regions.{regions_of}
use Rattle.regions.specs.region_laws.IsBasis.{IsBasis}
use Rattle.regions.proofs.region_laws.listing.Listed.{set_is}
use Rattle.region_states.specs.conflicts.Facts.{is_clash, is_null_in}
use Rattle.region_states.specs.conflicts.There.{NoneFailsBy}
use Rattle.region_states.specs.defaults.Defaults.{default_valuation}
use Rattle.host_states.specs.SmallStates.{small_focus}
use Rattle.host_states.proofs.small.SmallHosts.{small_host}
use Rattle.conflict_laws.specs.States.{ClearStates, FocusStates}
use Rattle.conflict_laws.specs.Told.{ClashingCell, NullCell}
use Rattle.conflict_laws.specs.clash.ClashValues.{clash_values}
use Rattle.conflict_laws.proofs.clash.Fails.{fails_at}
use Rattle.conflict_laws.proofs.null.Failing.{null_fails}
use Rattle.failure_laws.specs.Places.{IsEntityCell}

module _ (basis : Basis) (is : IsBasis basis) (limits : IsWithinLimits basis.schema) where
  -- the small states hold entities of all regions
  abbrev pub focuses : FocusStates basis
  focuses = record { is_basis = is; limits = limits; state = small_focus basis 0; hosts = small_host basis is limits 0 (omega arith) }

  abbrev pub clear_states : NoneFailsBy basis.schema kind.Clash → ClearStates basis
  clear_states none = record { given = focuses; no_clash = none }

  -- a region is one of its own set
  pub own_set : (s : SetId) (region : Region) → Contains (regions_of basis s) region → Contains (regions_of basis region.set) region
  own_set s region has = subst (λ u. Contains (regions_of basis u) region) (sym (set_is basis s region has)) has

  module _ (s : SetId) (region : Region) (has : Contains (regions_of basis s) region) (t : TableId) (col : ColId) (place : Place) where
    pub region_clash_fails : (one two : Symbol) → IsTrue (is_clash basis (focus.Entity region) t col one two) → IsEntityCell basis region (clash_values basis region one two) t col place
        → (d : State) → FailsAt basis.schema kind.Clash place (small_focus basis 0 region (clash_values basis region one two)) d
    region_clash_fails one two told cell d =
        let at : ClashingCell basis = record { s = region.set; region = region; listed = own_set s region has; t = t; col = col; one = one; two = two; clash = told } in
        let values : Valuation = clash_values basis region one two in
        let P : Place → Type 0 = λ it. FailsAt basis.schema kind.Clash it (small_focus basis 0 region values) d in
        subst P (sym cell.is) (fails_at basis focuses at cell.at d)

    pub region_null_fails : NoneFailsBy basis.schema kind.Clash → (one : Symbol) → IsTrue (is_null_in basis (focus.Entity region) t col one)
        → IsEntityCell basis region (default_valuation basis 0 region) t col place
        → (d : State) → FailsAt basis.schema kind.Null place (small_focus basis 0 region (default_valuation basis 0 region)) d
    region_null_fails none one told cell d =
        let at : NullCell basis = record { s = region.set; region = region; listed = own_set s region has; t = t; col = col; one = one; null = told } in
        let P : Place → Type 0 = λ it. FailsAt basis.schema kind.Null it (small_focus basis 0 region (default_valuation basis 0 region)) d in
        subst P (sym cell.is) (null_fails basis (clear_states none) at cell.at d)
