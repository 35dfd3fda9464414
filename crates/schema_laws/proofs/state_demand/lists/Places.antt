-- Items made with their numbers, and maps that agree.
use Rattle.std.proofs.Common.{◌≡◌, ⊎_elim, ℕ, zero, suc, ◌+◌, List, [], ◌∷◌, map, length, Some, Contains, refl, sym, ap, ◌∙◌, arith, zero-add}
use Rattle.std.proofs.lemmas.Option.{same_Some}
use Rattle.emc_base.specs.Lists.{At}
use Rattle.schema_laws.specs.state_demand.MadeTables.{map_from}
use Rattle.schema_laws.proofs.state_demand.lists.Lists.{head_stands, member_cases, none_in_nil, tail_stands}

module _ {X Y : Type 0} (f : ℕ → X → Y) where
  pub length-map_from : (n : ℕ) (xs : List X) → length (map_from f n xs) ≡ length xs
  length-map_from n [] = refl
  length-map_from n (x ∷ xs) = ap suc (length-map_from (suc n) xs)

  at-map_from : (n i : ℕ) (xs : List X) (x : X) → At xs i x → At (map_from f n xs) i (f (n + i) x)
  at-map_from n i [] x here = cc
  at-map_from n zero (y ∷ ys) x here =
      let same : n ≡ n + 0 = omega arith in
      let is : y ≡ x = same_Some y x here in
      λ k. Some (f (same k) (is k))
  at-map_from n (suc i) (y ∷ ys) x here =
      let same : suc n + i ≡ n + suc i = omega arith in
      at-map_from (suc n) i ys x here ∙ ap (λ m. Some (f m x)) same

  -- what stands at a place is made of the item there and its number
  pub made_at : (i : ℕ) (xs : List X) (x : X) → At xs i x → At (map_from f 0 xs) i (f i x)
  made_at i xs x here = at-map_from 0 i xs x here ∙ ap (λ m. Some (f m x)) (zero-add i)

module _ {X Y : Type 0} (f g : X → Y) where
  -- functions that agree at each member give one list
  pub map_agree : (xs : List X) → ((x : X) → Contains xs x → f x ≡ g x) → map f xs ≡ map g xs
  map_agree [] agree = refl
  map_agree (x ∷ xs) agree =
      let head : f x ≡ g x = agree x (head_stands x xs) in
      let tail : map f xs ≡ map g xs = map_agree xs (λ y has. agree y (tail_stands x xs y has)) in
      λ k. head k ∷ tail k

  -- and functions that give one list agree at each member
  pub agree_by_map : (xs : List X) → map f xs ≡ map g xs → (x : X) → Contains xs x → f x ≡ g x
  agree_by_map [] same x has = absurd (none_in_nil x has)
  agree_by_map (y ∷ ys) same x has =
      let heads : f y ≡ g y = cc in
      let tails : map f ys ≡ map g ys = cc in
      ⊎_elim
      (λ (here : x ≡ y). ap f here ∙ heads ∙ ap g (sym here))
      (λ (later : Contains ys x). agree_by_map ys tails x later)
      (member_cases y ys x has)
