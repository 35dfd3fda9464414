use Rattle.std.proofs.Common.{List, inl, inr, sym, subst}
use Rattle.round_trip.specs.Words.{Pair}
use Rattle.round_trip.specs.FailsAt.{IsHostedAt}
use Rattle.round_trip.specs.Between.{schema_of}
use Rattle.table_owners.proofs.link_places.placed.is_at_an_end.Goals as goal

pub returns-then-is_hosted : goal.returns-then-is_hosted
returns-then-is_hosted c = λ model mapping.
    let Hosted : List Pair → Type 0 = IsHostedAt (schema_of model c.args.store.now mapping) c.args.fragment.now.table in (
      λ is. inl (subst Hosted c.as_slice.ensures.items ((c.is_hosted.ensures model mapping).0 is)),
      λ hosted. c.if-is_hosted.true,
    )

pub returns-else-is_hosted : goal.returns-else-is_hosted
returns-else-is_hosted c = λ model mapping.
    let Hosted : List Pair → Type 0 = IsHostedAt (schema_of model c.args.store.now mapping) c.args.fragment.now.table in (
      λ is. inr (subst Hosted c.as_slice-else-is_hosted.ensures.items ((c.is_hosted-else-is_hosted.ensures model mapping).0 is)),
      λ hosted. elim hosted [
        | inl first ↦ absurd (let yes = (c.is_hosted.ensures model mapping).1 (subst Hosted (sym c.as_slice.ensures.items) first) in cc)
        | inr second ↦ (c.is_hosted-else-is_hosted.ensures model mapping).1 (subst Hosted (sym c.as_slice-else-is_hosted.ensures.items) second)
      ],
    )
