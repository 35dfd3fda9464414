use Rattle.std.proofs.Common.{List, sym, subst}
use Rattle.round_trip.specs.Words.{Pair}
use Rattle.round_trip.specs.FailsAt.{IsHostedAt}
use Rattle.round_trip.specs.Between.{schema_of}
use Rattle.table_owners.proofs.sources.standing_of.Goals as goal

pub returns-then-is_hosted : goal.returns-then-is_hosted
returns-then-is_hosted c = λ model mapping.
    let Hosted : List Pair → Type 0 = IsHostedAt (schema_of model c.args.store.now mapping) c.args.fragment.now.table in
    subst Hosted c.as_slice.ensures.items ((c.is_hosted.ensures model mapping).0 c.if-is_hosted.true)

pub returns-then-is_hosted-2 : goal.returns-then-is_hosted-2
returns-then-is_hosted-2 c = λ model mapping.
    let Hosted : List Pair → Type 0 = IsHostedAt (schema_of model c.args.store.now mapping) c.args.fragment.now.table in
    subst Hosted c.as_slice-2.ensures.items ((c.is_hosted-2.ensures model mapping).0 c.if-is_hosted-2.true)

pub returns : goal.returns
returns c = λ model mapping.
    let Hosted : List Pair → Type 0 = IsHostedAt (schema_of model c.args.store.now mapping) c.args.fragment.now.table in (
      λ first. absurd (let yes = (c.is_hosted.ensures model mapping).1 (subst Hosted (sym c.as_slice.ensures.items) first) in cc),
      λ second. absurd (let yes = (c.is_hosted-2.ensures model mapping).1 (subst Hosted (sym c.as_slice-2.ensures.items) second) in cc),
    )
