use Rattle.std.proofs.Common.{inl, inr}
use Rattle.table_owners.proofs.link_places.placed.is_placed.Goals as goal

pub returns-then-is_at_an_end : goal.returns-then-is_at_an_end
returns-then-is_at_an_end c = λ model mapping. (
  λ is. elim ((c.is_at_an_end.ensures model mapping).0 is) [
    | inl first ↦ inl first
    | inr second ↦ inr (inl second)
  ],
  λ placed. c.if-is_at_an_end.true,
)

pub returns-else-is_at_an_end : goal.returns-else-is_at_an_end
returns-else-is_at_an_end c = λ model mapping. (
  λ is. inr (inr ((c.is_joined.ensures model mapping).0 is)),
  λ placed. elim placed [
    | inl first ↦ absurd (let yes = (c.is_at_an_end.ensures model mapping).1 (inl first) in cc)
    | inr rest ↦ elim rest [
      | inl second ↦ absurd (let yes = (c.is_at_an_end.ensures model mapping).1 (inr second) in cc)
      | inr joined ↦ (c.is_joined.ensures model mapping).1 joined
    ]
  ],
)
