-- Whether a place is another or stands above it can be told; and what stands above a root, and above what is based on one.
use Rattle.std.proofs.Common.{◌≡◌, ◌⊎◌, ⊎_elim, inl, inr, ℕ, ◌<◌, ◌==◌, true, Contains, Option, Some, None, sym, subst, ◌∙◌}
use Rattle.std.specs.Bool.{Decides}
use Rattle.std.specs.Set.{is_member}
use Rattle.std.proofs.lemmas.Bool.Decides.{Decides-eqb}
use Rattle.std.proofs.lemmas.Map.Made.{is_member-Decides}
use Rattle.std.proofs.lemmas.Option.{none-some, same_Some}
use Rattle.emc_base.proofs.Stable.{told}
use Rattle.graphs.specs.base_chains.Chains.{IsAncestor, IsUpFrom, StaysWithin, chain, direct, further}
use Rattle.graphs.proofs.base_chains.Chains.{ancestor_in, ends, in_chain, itself_in}

module _ (base : ℕ → Option ℕ) (never : (i : ℕ) → ¬ IsAncestor base i i) (count : ℕ) (within : StaysWithin base count) where
  -- a place is another or stands above it, or not
  pub up_or_not : (i j : ℕ) → i < count → IsUpFrom base i j ⊎ (¬ IsUpFrom base i j)
  up_or_not i j inside = told (is_member (λ one other. one == other) (chain base count i) j) (to, back)
    where
      tells : Decides (is_member (λ one other. one == other) (chain base count i) j) (Contains (chain base count i) j)
      tells = is_member-Decides Decides-eqb (chain base count i) j

      to : is_member (λ one other. one == other) (chain base count i) j ≡ true → IsUpFrom base i j
      to is = ⊎_elim (λ (same : j ≡ i). inl (sym same)) (λ (above : IsAncestor base i j). inr above) (in_chain base count i j (tells.0 is))

      back : IsUpFrom base i j → is_member (λ one other. one == other) (chain base count i) j ≡ true
      back up = tells.1 (⊎_elim
          (λ (same : i ≡ j). let P : ℕ → Type 0 = λ k. Contains (chain base count i) k in subst P same (itself_in base count i (ends base never count within i inside)))
          (λ (above : IsAncestor base i j). ancestor_in base count i j (ends base never count within i inside) above)
          up)

module _ (base : ℕ → Option ℕ) where
  -- nothing stands above a root
  pub none_above_root : (i k : ℕ) → base i ≡ None → ¬ IsAncestor base i k
  none_above_root i k none (direct _ _ is) = none-some k (sym none ∙ is)
  none_above_root i k none (further _ j _ is rest) = none-some j (sym none ∙ is)

  -- and only the root above what is based on it
  pub root_above : (i j k : ℕ) → base i ≡ Some j → base j ≡ None → IsAncestor base i k → k ≡ j
  root_above i j k is none (direct _ _ next) = same_Some k j (sym next ∙ is)
  root_above i j k is none (further _ m _ next rest) =
      let P : ℕ → Type 0 = λ m. base m ≡ None in
      absurd (none_above_root m k (subst P (sym (same_Some m j (sym next ∙ is))) none) rest)
