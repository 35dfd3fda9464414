-- A type of a sound model is derived from another, or not: a climb over base types ends.
use Rattle.std.proofs.Common.{◌≡◌, ⊎_elim, inl, inr, ℕ, ◌<◌, length, Option, refl, sym, subst}
use Rattle.graphs.specs.base_chains.Chains.{IsAncestor, IsUpFrom, direct, further}
use Rattle.graphs.proofs.base_chains.Chains.{above_above}
use Rattle.edm_types.specs.Forest.{type_numbered}
use Rattle.edm_types.specs.IsA.{same, base, chain}
use Rattle.round_trip.specs.Words.{EntityModel, IsA, TypeId}
use Rattle.round_trip.specs.soundness.models.Models.{IsSoundModel}
use Rattle.schema_names.specs.Inherited.{base_place}
use Rattle.schema_names.proofs.Inherits.{has_base, sound_inherits}
use Rattle.graphs.proofs.base_chains.Settled.{up_or_not}
use Rattle.emc_base.proofs.Stable.{settled}
use Rattle.schema_names.proofs.Places.{base_here}

-- up from what is up
up_up : (above : ℕ → Option ℕ) (i j k : ℕ) → IsUpFrom above i j → IsUpFrom above j k → IsUpFrom above i k
up_up above i j k first second = ⊎_elim
    (λ (one : i ≡ j). let P : ℕ → Type 0 = λ n. IsUpFrom above n k in subst P (sym one) second)
    (λ (near : IsAncestor above i j). ⊎_elim
    (λ (one : j ≡ k). let P : ℕ → Type 0 = λ n. IsUpFrom above i n in subst P one (inr near))
    (λ (far : IsAncestor above j k). inr (above_above above i j k near far))
    second)
    first

module _ (model : EntityModel) where
  -- what a type is derived from stands up from it
  stands_up : (t u : TypeId) → IsA model t u → IsUpFrom (base_place model) t.index u.index
  stands_up t u (same _) = inl refl
  stands_up t u (base _ _ has) = inr (direct t.index u.index (base_here model t u has))
  stands_up t u (chain _ v _ first second) = up_up (base_place model) t.index v.index u.index (stands_up t v first) (stands_up v u second)

  -- and back
  derived : (i j : ℕ) → IsAncestor (base_place model) i j → IsA model (type_numbered i) (type_numbered j)
  derived i j (direct _ _ here) = base (type_numbered i) (type_numbered j) (has_base model i j here)
  derived i j (further _ k _ here rest) =
      chain (type_numbered i) (type_numbered k) (type_numbered j) (base (type_numbered i) (type_numbered k) (has_base model i k here)) (derived k j rest)

  up_is : (i j : ℕ) → IsUpFrom (base_place model) i j → IsA model (type_numbered i) (type_numbered j)
  up_is i j up = ⊎_elim
      (λ (one : i ≡ j). let P : ℕ → Type 0 = λ n. IsA model (type_numbered i) (type_numbered n) in subst P one (same (type_numbered i)))
      (λ (above : IsAncestor (base_place model) i j). derived i j above)
      up

  -- a type that can't but be derived from another is
  pub is_derived : IsSoundModel model → (t : ℕ) (u : TypeId) → t < length model.types → ¬ (¬ IsA model (type_numbered t) u) → IsA model (type_numbered t) u
  is_derived sound t u inside never =
      let inherits = sound_inherits model sound in
      up_is t u.index (settled (up_or_not (base_place model) inherits.rooted (length model.types) inherits.within t u.index inside)
      (λ not. never (λ is. not (stands_up (type_numbered t) u is))))
