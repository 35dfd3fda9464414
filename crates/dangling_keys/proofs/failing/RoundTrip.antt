-- A mapping round-trips exactly where nothing is told of it.
use Rattle.std.proofs.Common.{◌≡◌, ◌≢◌, ◌↔◌, arith}
use Rattle.round_trip.specs.Words.{RoundTrips}
use Rattle.round_trip.specs.declared.FailKind.{FailKind}
use Rattle.round_trip.specs.declared.FailKind.TheVariants as kind
use Rattle.cells.specs.Limits.{IsWithinLimits}
use Rattle.regions.specs.Basis.{Basis}
use Rattle.regions.specs.region_laws.IsBasis.{IsBasis}
use Rattle.region_states.specs.conflicts.There.{NoneFailsBefore, NoneFailsBy}
use Rattle.conflict_laws.proofs.Exact.{exact}
use Rattle.failure_laws.proofs.links.LinkExact.{links_exact}
use Rattle.failure_laws.proofs.places.There.{links_fail, none_fails, set_fails}
use Rattle.dangling_keys.specs.Laws.{HasNoConflicts, IsSoundBasis}
use Rattle.dangling_keys.proofs.failing.Whole.{told_fails}
use Rattle.dangling_keys.proofs.told.Told.{dangling_told}

module _ (basis : Basis) (sound : IsSoundBasis basis) where
  is : IsBasis basis
  is = sound.is_basis

  limits : IsWithinLimits basis.schema
  limits = sound.limits

  module _ (nothing : HasNoConflicts basis) where
    -- none fails by a kind by which none before fails
    by_kind : (of : FailKind) → of ≢ kind.Dangling → NoneFailsBefore basis.schema of → NoneFailsBy basis.schema of
    by_kind of other before = none_fails basis is limits of other before
        (λ s set here fails. let found = (exact basis is limits of before s).1 fails in nothing.sets of s set here found.0 found.1)
        (λ a assoc here fails. let found = (links_exact basis is limits of before a).1 fails in nothing.links of a assoc here found.0 found.1)

    none_clash : NoneFailsBy basis.schema kind.Clash
    none_clash = by_kind kind.Clash not_this before
      where
        not_this : kind.Clash ≢ kind.Dangling
        not_this same_kind = absurd (let never : kind.Clash ≡ kind.Dangling = same_kind in cc)

        before : NoneFailsBefore basis.schema kind.Clash
        before kind.Clash less = absurd (omega (arith, less))
        before kind.Null less = absurd (omega (arith, less))
        before kind.Disagrees less = absurd (omega (arith, less))
        before kind.Dangling less = absurd (omega (arith, less))
        before kind.Same less = absurd (omega (arith, less))

    none_null : NoneFailsBy basis.schema kind.Null
    none_null = by_kind kind.Null not_this before
      where
        not_this : kind.Null ≢ kind.Dangling
        not_this same_kind = absurd (let never : kind.Null ≡ kind.Dangling = same_kind in cc)

        before : NoneFailsBefore basis.schema kind.Null
        before kind.Clash less = none_clash
        before kind.Null less = absurd (omega (arith, less))
        before kind.Disagrees less = absurd (omega (arith, less))
        before kind.Dangling less = absurd (omega (arith, less))
        before kind.Same less = absurd (omega (arith, less))

    none_disagrees : NoneFailsBy basis.schema kind.Disagrees
    none_disagrees = by_kind kind.Disagrees not_this before
      where
        not_this : kind.Disagrees ≢ kind.Dangling
        not_this same_kind = absurd (let never : kind.Disagrees ≡ kind.Dangling = same_kind in cc)

        before : NoneFailsBefore basis.schema kind.Disagrees
        before kind.Clash less = none_clash
        before kind.Null less = none_null
        before kind.Disagrees less = absurd (omega (arith, less))
        before kind.Dangling less = absurd (omega (arith, less))
        before kind.Same less = absurd (omega (arith, less))

    none_dangles : NoneFailsBy basis.schema kind.Dangling
    none_dangles place c d fails = let told = dangling_told basis is limits none_clash place c d fails in nothing.keys told.0 told.1

    none_same : NoneFailsBy basis.schema kind.Same
    none_same = by_kind kind.Same not_this before
      where
        not_this : kind.Same ≢ kind.Dangling
        not_this same_kind = absurd (let never : kind.Same ≡ kind.Dangling = same_kind in cc)

        before : NoneFailsBefore basis.schema kind.Same
        before kind.Clash less = none_clash
        before kind.Null less = none_null
        before kind.Disagrees less = none_disagrees
        before kind.Dangling less = none_dangles
        before kind.Same less = absurd (omega (arith, less))

    all_round_trip : RoundTrips basis.schema
    all_round_trip kind.Clash = none_clash
    all_round_trip kind.Null = none_null
    all_round_trip kind.Disagrees = none_disagrees
    all_round_trip kind.Dangling = none_dangles
    all_round_trip kind.Same = none_same

  -- each thing that is told is of a state that fails
  nothing_told : RoundTrips basis.schema → HasNoConflicts basis
  nothing_told round_trips = record {
    sets = λ of s set here conflict is_conflict.
        (let failing = set_fails basis s of ((exact basis is limits of (λ earlier less. round_trips earlier) s).0 (conflict, is_conflict)) in
        round_trips of failing.0 failing.1 failing.2 failing.3);
    links = λ of a assoc here conflict is_conflict.
        (let failing = links_fail basis a of ((links_exact basis is limits of (λ earlier less. round_trips earlier) a).0 (conflict, is_conflict)) in
        round_trips of failing.0 failing.1 failing.2 failing.3);
    keys = λ told dangling.
        (let failing = told_fails basis (record { sound = sound; none = round_trips kind.Clash }) told dangling in round_trips kind.Dangling failing.place failing.state failing.state failing.at.fails);
  }

  pub by_conflicts : HasNoConflicts basis ↔ RoundTrips basis.schema
  by_conflicts = (all_round_trip, nothing_told)
