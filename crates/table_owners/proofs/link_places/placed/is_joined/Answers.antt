use Rattle.std.proofs.Common.{◌↔◌, ◌++◌, IsTrue, List, subst₂}
use Rattle.round_trip.specs.Words.{Pair}
use Rattle.round_trip.specs.FailsAt.{IsHostedAt}
use Rattle.round_trip.specs.Between.{schema_of}
use Rattle.table_owners.proofs.link_places.placed.is_joined.Goals as goal

pub returns-then-are_optional : goal.returns-then-are_optional
returns-then-are_optional c = λ model mapping.
    let Tells : List Pair → List Pair → Type 0 = λ one other. IsTrue c.are_key.result ↔ IsHostedAt (schema_of model c.args.store.now mapping) c.args.fragment.now.table (one ++ other) in
    let tells = subst₂ Tells c.as_slice-first.ensures.items c.as_slice-second.ensures.items (c.are_key.ensures model mapping) in
    let optional = c.are_optional.ensures.0 c.if-are_optional.true in (
      λ is. record { columns = tells.0 is; first = optional.0; second = optional.1 },
      λ joined. tells.1 joined.columns,
    )
