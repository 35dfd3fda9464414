use Rattle.std.proofs.Common.{◌≡◌, None, ◌∙◌}
use Rattle.std.proofs.lemmas.Result.{IfOk-weaker}
use Rattle.cells.specs.Parts.{schema_in}
use Rattle.region_states.specs.conflicts.There.{NoneFailsBy}
use Rattle.region_states.specs.region_basis.BasisOf.{basis_of}
use Rattle.round_trip.specs.Words.{Keeps, RoundTrips}
use Rattle.round_trip.specs.declared.FailKind.TheVariants as variant
use Rattle.mapping_core.proofs.mapping_verdict.EachKind.{each_kind}
use Rattle.mapping_core.proofs.mapping_verdict.failures.first_failure.Goals as goal

pub returns-in-Some-clause-fails : goal.returns-in-Some-clause-fails
returns-in-Some-clause-fails c = λ failure same. c.in_ok-failure.ensures.fails failure (c.in-Some.is ∙ same)

pub returns-in-Some-2-clause-fails : goal.returns-in-Some-2-clause-fails
returns-in-Some-2-clause-fails c = λ failure same. c.in_ok-failure-2.ensures.fails failure (c.in-Some-2.is ∙ same)

pub returns-in-Some-3-clause-fails : goal.returns-in-Some-3-clause-fails
returns-in-Some-3-clause-fails c = λ failure same. c.in_ok-failure-3.ensures.fails failure (c.in-Some-3.is ∙ same)

pub returns-in-Some-4-clause-fails : goal.returns-in-Some-4-clause-fails
returns-in-Some-4-clause-fails c = λ failure same. c.in_ok-failure-4.ensures.fails failure (c.in-Some-4.is ∙ same)

-- where none is found of any kind, none fails
pub returns-clause-round_trips : goal.returns-clause-round_trips
returns-clause-round_trips c =
    let schema = schema_in c.args.parts.now in
    let basis = basis_of c.args.parts.now in
    IfOk-weaker c.failure_by-4.result (λ found. found ≡ None → NoneFailsBy schema variant.Same) (λ found. found ≡ None → RoundTrips schema)
    (λ found none same. c.a_mapping_round_trips_place_by_place.ensures.round_trips basis (each_kind schema (c.in_ok-failure.ensures.none c.in_default.is) (c.in_ok-failure-2.ensures.none c.in_default-2.is)
    (c.in_ok-failure-3.ensures.none c.in_default-3.is) (c.in_ok-failure-4.ensures.none c.in_default-4.is) (none same)))
    c.failure_by-4.ensures.none

pub returns-clause-keeps : goal.returns-clause-keeps
returns-clause-keeps c =
    let schema = schema_in c.args.parts.now in
    IfOk-weaker c.failure_by-4.result (λ found. found ≡ None → RoundTrips schema) (λ found. found ≡ None → Keeps schema)
    (λ found trips same. c.every_state_is_kept.ensures.keeps schema c.requires.parts.sound (trips same))
    (returns-clause-round_trips c)
