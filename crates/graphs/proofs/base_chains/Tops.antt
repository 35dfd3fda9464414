-- The root of a type: that of its base, and the one up from it that has no base.
use Rattle.std.proofs.Common.{◌≡◌, ◌<◌, ⊎_elim, inl, inr, ℕ, zero, suc, List, [], ◌∷◌, ◌++◌, length, get_or, MatchOption, Option, Some, None, refl, sym, ap, subst, ◌∙◌, arith}
use Rattle.std.specs.Bool.{⊤}
use Rattle.std.specs.Option.{option_map_or}
use Rattle.graphs.specs.base_chains.Chains.{IsAncestor, direct, further, IsUpFrom, chain, root}
use Rattle.graphs.specs.base_chains.Jumps.{IsForest}
use Rattle.graphs.proofs.base_chains.Chains.{Ends, chain_root, chain_step, ends, itself_in}

-- the first of a list with one more at its end
first_of_more : (xs : List ℕ) (d e x : ℕ) → 0 < length xs → get_or (xs ++ x ∷ []) 0 d ≡ get_or xs 0 e
first_of_more [] d e x some = absurd (omega arith)
first_of_more (y ∷ xs) d e x some = refl

module _ (base : ℕ → Option ℕ) (count : ℕ) (forest : IsForest base count) where
  each_ends : (i : ℕ) → i < count → Ends base count i
  each_ends i inside = ends base forest.rooted count forest.within i inside

  -- a chain has its place at least
  some_in : (i : ℕ) → i < count → 0 < length (chain base count i)
  some_in i inside = let has = itself_in base count i (each_ends i inside) in let within : has.0 < length (chain base count i) = has.1 in omega arith

  -- a root is that of the base, or the place itself
  pub root_step : (i : ℕ) → i < count → root base count i ≡ option_map_or (root base count) (base i) i
  root_step i inside = by (base i) refl
    where
      by : (o : Option ℕ) → base i ≡ o → root base count i ≡ option_map_or (root base count) o i
      by None is = ap (λ xs. get_or xs 0 i) (chain_root base count i (each_ends i inside) is)
      by (Some j) is = ap (λ xs. get_or xs 0 i) (chain_step base count i j (each_ends i inside) is) ∙ first_of_more (chain base count j) i j i (some_in j (forest.within i j is))

  root_of_base : (i j : ℕ) → i < count → base i ≡ Some j → root base count i ≡ root base count j
  root_of_base i j inside is = root_step i inside ∙ ap (λ (o : Option ℕ). option_map_or (root base count) o i) is

  root_of_root : (i : ℕ) → i < count → base i ≡ None → root base count i ≡ i
  root_of_root i inside is = root_step i inside ∙ ap (λ (o : Option ℕ). option_map_or (root base count) o i) is

  -- one has the same root as those above it
  pub root_above : (i j : ℕ) → i < count → IsAncestor base i j → root base count i ≡ root base count j
  root_above i j inside (direct _ _ is) = root_of_base i j inside is
  root_above i j inside (further _ m _ is rest) = root_of_base i m inside is ∙ root_above m j (forest.within i m is) rest

  -- a root has no base, and is up from the place
  pub root_top : (i : ℕ) → i < count → (base (root base count i) ≡ None) × IsUpFrom base i (root base count i)
  root_top i inside = top count i (each_ends i inside) inside
    where
      IsTop : ℕ → ℕ → Type 0
      IsTop x r = (base r ≡ None) × IsUpFrom base x r

      top : (n x : ℕ) → Ends base n x → x < count → IsTop x (root base count x)
      top zero x end x_in = absurd end
      top (suc n) x end x_in = by (base x) refl end (top n)
        where
          by : (o : Option ℕ) → base x ≡ o → MatchOption o ⊤ (λ j. Ends base n j) → ((y : ℕ) → Ends base n y → y < count → IsTop y (root base count y)) → IsTop x (root base count x)
          by None is last upper = subst (IsTop x) (sym (root_of_root x x_in is)) (is, inl refl)
          by (Some j) is last upper =
              let found = upper j last (forest.within x j is) in
              subst (IsTop x) (sym (root_of_base x j x_in is)) (
                found.0,
                inr (⊎_elim
                    (λ (same : j ≡ root base count j). direct x (root base count j) (is ∙ ap Some same))
                    (λ (above : IsAncestor base j (root base count j)). further x j (root base count j) is above)
                    found.1),
              )
