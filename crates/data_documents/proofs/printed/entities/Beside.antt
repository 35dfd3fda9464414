-- Values beside properties of which none stands twice, and lists mapped alike.
use Rattle.std.proofs.Common.{◌≡◌, ◌==◌, suc, List, [], ◌∷◌, length, map, zip, false, All, Contains, cond, refl, sym, ap, ◌∙◌, arith}
use Rattle.std.proofs.lemmas.Bool.{false_from_ne_true}
use Rattle.std.proofs.lemmas.Bool.Decides.{Decides-eqb}
use Rattle.std.proofs.lemmas.List.Elements.{All-head, All-tail}
use Rattle.emc_base.specs.Lists.{AreApart}
use Rattle.emc_base.proofs.Lists.{all_from_members}
use Rattle.round_trip.specs.Words.{PropId, Value, value_beside}

module _ {X Y : Type 0} (f g : X → Y) where
  -- functions that agree on each item map a list alike
  pub map_alike : (xs : List X) → All (λ x. f x ≡ g x) xs → map f xs ≡ map g xs
  map_alike [] all = refl
  map_alike (x ∷ xs) all =
      let head : f x ≡ g x = All-head (λ z. f z ≡ g z) x xs all in
      let tail : map f xs ≡ map g xs = map_alike xs (All-tail (λ z. f z ≡ g z) x xs all) in
      λ k. head k ∷ tail k

-- items put side by side with their images
pub zip_images : {X Y : Type 0} (f : X → Y) (xs : List X) → zip xs (map f xs) ≡ map (λ x. (x, f x)) xs
zip_images f [] = refl
zip_images f (x ∷ xs) = ap (λ rest. (x, f x) ∷ rest) (zip_images f xs)

-- the later properties are others
others : (p : PropId) (props : List PropId) → AreApart (p ∷ props) → (q : PropId) → Contains props q → (p.index == q.index) ≡ false
others p props apart q has = false_from_ne_true (p.index == q.index) (λ is.
    let number : p.index ≡ q.index = (Decides-eqb p.index q.index).0 is in
    let same : p ≡ q = λ i. record { index = number i } in
    apart 0 (suc has.0) q (omega arith) (omega (arith, has.1)) (same ∙ sym has.2))

-- the values beside the properties are the values
pub values_beside : (props : List PropId) (values : List Value) → AreApart props → length values ≡ length props → map (λ p. value_beside p props values) props ≡ values
values_beside [] [] apart long = refl
values_beside [] (value ∷ values) apart long = absurd (omega (arith, long))
values_beside (p ∷ props) [] apart long = absurd (omega (arith, long))
values_beside (p ∷ props) (value ∷ values) apart long =
    let beside : PropId → Value = λ q. value_beside q (p ∷ props) (value ∷ values) in
    let inside : PropId → Value = λ q. value_beside q props values in
    let head : beside p ≡ value = ap (λ b. cond b value (inside p)) ((Decides-eqb p.index p.index).1 refl) in
    let later : map beside props ≡ map inside props =
    map_alike beside inside props (all_from_members (λ q. beside q ≡ inside q) props (λ q has. ap (λ b. cond b value (inside q)) (others p props apart q has))) in
    let rest : map inside props ≡ values = values_beside props values (λ i j d below within. apart (suc i) (suc j) d (omega arith) (omega arith)) (omega (arith, long)) in
    let tail : map beside props ≡ values = later ∙ rest in
    λ k. head k ∷ tail k
