-- What is so of each kind is so of all.
use Rattle.std.proofs.Common.{IsSome, None}
use Rattle.round_trip.specs.Words.{Schema}
use Rattle.round_trip.specs.declared.FailKind.{FailKind}
use Rattle.round_trip.specs.declared.FailKind.TheVariants as variant
use Rattle.region_states.specs.conflicts.There.{NoneFailsBy}

pub each_kind : (schema : Schema) → NoneFailsBy schema variant.Clash → NoneFailsBy schema variant.Null → NoneFailsBy schema variant.Disagrees → NoneFailsBy schema variant.Dangling
    → NoneFailsBy schema variant.Same → (kind : FailKind) → NoneFailsBy schema kind
each_kind schema clash null disagrees dangling same variant.Clash = clash
each_kind schema clash null disagrees dangling same variant.Null = null
each_kind schema clash null disagrees dangling same variant.Disagrees = disagrees
each_kind schema clash null disagrees dangling same variant.Dangling = dangling
each_kind schema clash null disagrees dangling same variant.Same = same

-- nothing isn't something
pub none_some : (X : Type 0) → IsSome {T = X} None → ⊥
none_some X some = let never = some in (let no : ⊥ = cc in no)
