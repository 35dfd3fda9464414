-- Numbers of groups that are found.
use Rattle.std.proofs.Common.{◌≡◌, ◌≢◌, ℕ, Option, Some, None, sym, ap, ◌∙◌}
use Rattle.std.proofs.lemmas.Option.{same_Some}
use Rattle.round_trip.specs.Words.{GroupId}
use Rattle.member_groups.specs.mapping_asks.Adding.{Tells}

module _ (found : Option GroupId) where
  -- a group that is found has just its number
  pub one_joint : (group : GroupId) → found ≡ Some group → Tells (λ k. k ≡ group.index) (λ k. found ≡ Some (record { index = k }))
  one_joint group is k = (
    λ same. is ∙ (λ i. Some (record { index = sym same i })),
    λ same. sym (ap (λ (one : GroupId). one.index) (same_Some group (record { index = k }) (sym is ∙ same))),
  )

  -- none has no number
  pub no_joint : found ≡ None → (k : ℕ) → found ≢ Some (record { index = k })
  no_joint none k some = absurd (let never : None ≡ Some (record { index = k }) = sym none ∙ some in cc)
