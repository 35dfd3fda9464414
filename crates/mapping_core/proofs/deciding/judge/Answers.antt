use Rattle.std.proofs.Common.{Option, subst}
use Rattle.round_trip.specs.Words.{LimitFault}
use Rattle.region_partition.specs.mapping_limits.FirstLimit.{IsFirstLimit}
use Rattle.mapping_core.proofs.MadeOf.{regions_by}
use Rattle.mapping_core.proofs.deciding.judge.Goals as goal

pub returns-in-Some-2 : goal.returns-in-Some-2
returns-in-Some-2 c =
    let First : Option LimitFault → Type 0 = λ told. IsFirstLimit c.args.schema.now told in
    (subst First c.in_default.is c.in_ok-fault.ensures.first, c.in_ok-failure.ensures.fails c.in-Some-2.failure c.in-Some-2.is)

pub returns : goal.returns
returns c =
    let First : Option LimitFault → Type 0 = λ told. IsFirstLimit c.args.schema.now told in
    let found = c.in_ok-failure.ensures in (
      record { within = subst First c.in_default.is c.in_ok-fault.ensures.first; round_trips = found.round_trips c.in_default-2.is; keeps = found.keeps c.in_default-2.is },
      regions_by _ (c.in_ok-fault.ensures.parts c.in_default.is) c.in_ok-regions.regions c.in_ok-regions.ensures,
    )
