-- Lists side by side.
use Rattle.std.proofs.Common.{◌≡◌, ⊎_elim, ◌<◌, ◌≤◌, ◌==◌, ◌+◌, ◌++◌, ℕ, zero, suc, List, [], ◌∷◌, map, length, take, get_or, Bool, true, false, AllPairs, Contains, refl, sym, ap, subst, ◌∙◌, arith}
use Rattle.std.specs.List.{AllZip}
use Rattle.std.proofs.lemmas.List.{map-append}
use Rattle.std.proofs.lemmas.List.Elements.{All-contains}
use Rattle.std.proofs.lemmas.Option.{get_or_from_slice_get, slice_get_within}
use Rattle.emc_base.proofs.Loops.{take_item}
use Rattle.emc_base.proofs.Turns.{mapped_more}
use Rattle.emc_base.proofs.facts.Zipped.{zip_push}
use Rattle.round_trip.specs.Words.{At, PropId, Value, value_beside}
use Rattle.regions.proofs.region_laws.lists.Choices.{pairs_head, pairs_tail}
use Rattle.schema_laws.proofs.state_demand.lists.Ids.{Decides-prop}
use Rattle.schema_laws.proofs.state_demand.lists.Lists.{head_stands, member_cases, none_in_nil, tail_stands}

module _ {X Y : Type 0} (R : X → Y → Type 0) where
  -- and each item has one beside it
  zip_read : (xs : List X) (ys : List Y) → AllZip R xs ys → (i : ℕ) (x : X) (y : Y) → i < length xs → R (get_or xs i x) (get_or ys i y)
  zip_read [] [] zip i x y within = absurd (omega arith)
  zip_read [] (w ∷ ys) zip i x y within = absurd zip
  zip_read (z ∷ xs) [] zip i x y within = absurd zip
  zip_read (z ∷ xs) (w ∷ ys) zip zero x y within = zip.0
  zip_read (z ∷ xs) (w ∷ ys) zip (suc i) x y within = zip_read xs ys zip.1 i x y (omega arith)

  pub zip_at : (xs : List X) (ys : List Y) → AllZip R xs ys → (i : ℕ) (x : X) (y : Y) → At xs i x → At ys i y → R x y
  zip_at xs ys zip i x y at_x at_y =
      let read = zip_read xs ys zip i x y (slice_get_within xs i x at_x) in
      subst (λ z. R z y) (get_or_from_slice_get xs i x x at_x) (subst (R (get_or xs i x)) (get_or_from_slice_get ys i y y at_y) read)

  -- the other way
  pub zip_from : (xs : List X) (ys : List Y) → length xs ≡ length ys → ((i : ℕ) (x : X) (y : Y) → i < length xs → R (get_or xs i x) (get_or ys i y)) → AllZip R xs ys
  zip_from [] [] long each = tt
  zip_from [] (y ∷ ys) long each = absurd (omega (arith, long))
  zip_from (x ∷ xs) [] long each = absurd (omega (arith, long))
  zip_from (x ∷ xs) (y ∷ ys) long each = (each 0 x y (omega arith), zip_from xs ys (omega (arith, long)) (λ i a b within. each (suc i) a b (omega arith)))

  -- members side by side
  module _ (S : X → Y → Type 0) where
    pub zip_members : (xs : List X) (ys : List Y) → AllZip R xs ys → ((x : X) (y : Y) → Contains xs x → Contains ys y → R x y → S x y) → AllZip S xs ys
    zip_members [] [] zip each = tt
    zip_members [] (y ∷ ys) zip each = absurd zip
    zip_members (x ∷ xs) [] zip each = absurd zip
    zip_members (x ∷ xs) (y ∷ ys) zip each = (
      each x y (head_stands x xs) (head_stands y ys) zip.0,
      zip_members xs ys zip.1 (λ z w has_z has_w so. each z w (tail_stands x xs z has_z) (tail_stands y ys w has_w) so),
    )

module _ {X Y : Type 0} (key : X → ℕ) (name : Y → ℕ) where
  abbrev Rises : List X → Type 0
  Rises xs = AllPairs (λ one next. key one < key next) xs

  abbrev RisesToo : List Y → Type 0
  RisesToo ys = AllPairs (λ one next. name one < name next) ys

  above : (x : X) (xs : List X) → Rises (x ∷ xs) → (z : X) → Contains xs z → key x < key z
  above x xs rises z has = All-contains (λ next. key x < key next) xs z (pairs_head (λ one next. key one < key next) x xs rises) has

  above_too : (y : Y) (ys : List Y) → RisesToo (y ∷ ys) → (w : Y) → Contains ys w → name y < name w
  above_too y ys rises w has = All-contains (λ next. name y < name next) ys w (pairs_head (λ one next. name one < name next) y ys rises) has

  -- lists that rise by the same numbers have these side by side
  pub rising_zip : (xs : List X) (ys : List Y) → Rises xs → RisesToo ys
      → ((x : X) → Contains xs x → (y : Y) × Contains ys y × (key x ≡ name y))
      → ((y : Y) → Contains ys y → (x : X) × Contains xs x × (key x ≡ name y))
      → AllZip (λ x y. key x ≡ name y) xs ys
  rising_zip [] [] up up_too there back = tt
  rising_zip [] (y ∷ ys) up up_too there back = let found = back y (head_stands y ys) in absurd (none_in_nil found.0 found.1)
  rising_zip (x ∷ xs) [] up up_too there back = let found = there x (head_stands x xs) in absurd (none_in_nil found.0 found.1)
  rising_zip (x ∷ xs) (y ∷ ys) up up_too there back =
      (heads, rising_zip xs ys (pairs_tail (λ one next. key one < key next) x xs up) (pairs_tail (λ one next. name one < name next) y ys up_too) rest_there rest_back)
    where
      not_below : (z : X) → Contains (x ∷ xs) z → key x ≤ key z
      not_below z has = ⊎_elim
          (λ (here : z ≡ x). let same : key z ≡ key x = ap key here in let P : ℕ → Type 0 = λ n. key x ≤ n in subst P (sym same) (omega arith))
          (λ (later : Contains xs z). let less = above x xs up z later in omega (arith, less))
          (member_cases x xs z has)

      not_below_too : (w : Y) → Contains (y ∷ ys) w → name y ≤ name w
      not_below_too w has = ⊎_elim
          (λ (here : w ≡ y). let same : name w ≡ name y = ap name here in let P : ℕ → Type 0 = λ n. name y ≤ n in subst P (sym same) (omega arith))
          (λ (later : Contains ys w). let less = above_too y ys up_too w later in omega (arith, less))
          (member_cases y ys w has)

      heads : key x ≡ name y
      heads =
          let first = there x (head_stands x xs) in
          let second = back y (head_stands y ys) in
          let one = not_below_too first.0 first.1 in
          let two = not_below second.0 second.1 in
          let at = first.2 in
          let also = second.2 in
          omega (arith, one, two, at, also)

      rest_there : (z : X) → Contains xs z → (w : Y) × Contains ys w × (key z ≡ name w)
      rest_there z has =
          let found = there z (tail_stands x xs z has) in
          ⊎_elim
          (λ (here : found.0 ≡ y).
          let same : name found.0 ≡ name y = ap name here in
          let less = above x xs up z has in
          let at = found.2 in
          let tops = heads in
          absurd (omega (arith, same, less, at, tops)))
          (λ (later : Contains ys found.0). (found.0, later, found.2))
          (member_cases y ys found.0 found.1)

      rest_back : (w : Y) → Contains ys w → (z : X) × Contains xs z × (key z ≡ name w)
      rest_back w has =
          let found = back w (tail_stands y ys w has) in
          ⊎_elim
          (λ (here : found.0 ≡ x).
          let same : key found.0 ≡ key x = ap key here in
          let less = above_too y ys up_too w has in
          let at = found.2 in
          let tops = heads in
          absurd (omega (arith, same, less, at, tops)))
          (λ (later : Contains xs found.0). (found.0, later, found.2))
          (member_cases x xs found.0 found.1)

-- the value beside a property is that of an item beside it
module _ {X : Type 0} (P : PropId → X → Type 0) (f : X → Value) where
  pub record IsBeside (p : PropId) (value : Value) : Type 0 where
    pub item : X
    pub so : P p item
    pub is : value ≡ f item

  pub beside_item : (props : List PropId) (xs : List X) → AllZip P props xs → (p : PropId) → Contains props p → IsBeside p (value_beside p props (map f xs))
  beside_item [] xs zip p has = absurd (none_in_nil p has)
  beside_item (q ∷ props) [] zip p has = absurd zip
  beside_item (q ∷ props) (x ∷ xs) zip p has = by (q.index == p.index) refl (λ later. beside_item props xs zip.1 p later)
    where
      by : (b : Bool) → q.index == p.index ≡ b → (Contains props p → IsBeside p (value_beside p props (map f xs)))
          → IsBeside p (value_beside p (q ∷ props) (map f (x ∷ xs)))
      by true told others =
          let same : q ≡ p = (Decides-prop q p).0 told in
          record { item = x; so = subst (λ one. P one x) same zip.0; is = rw told refl }
      by false told others =
          let rest = others (⊎_elim
          (λ (here : p ≡ q). let it : q.index == p.index ≡ true = (Decides-prop q p).1 (sym here) in absurd cc)
          (λ (later : Contains props p). later)
          (member_cases q props p has)) in
          record { item = rest.item; so = rest.so; is = rw told rest.is }

-- one more item stands beside one
pub zip_more : {X Y : Type 0} (R : X → Y → Type 0) (xs : List X) (i : ℕ) (x : X) (ys : List Y) (y : Y) (now : List Y) → At xs i x → AllZip R (take i xs) ys → R x y
    → now ≡ ys ++ y ∷ [] → AllZip R (take (i + 1) xs) now
zip_more {X} {Y} R xs i x ys y now here zip so is =
    let P : List X → List Y → Type 0 = AllZip R in
    subst (P (take (i + 1) xs)) (sym is) (subst (λ (list : List X). P list (ys ++ y ∷ [])) (sym (take_item xs i x here)) (zip_push R (take i xs) ys x y zip so))

-- one more lent item is what is made of one
pub lent_more : {U X Y : Type 0} (g : U → Y) (f : X → Y) (us : List U) (u : U) (now : List U) (items : List X) (i : ℕ) (item : X) → now ≡ us ++ u ∷ []
    → map g us ≡ map f (take i items) → At items i item → g u ≡ f item → map g now ≡ map f (take (i + 1) items)
lent_more g f us u now items i item is so here same = ap (map g) is ∙ map-append g us (u ∷ []) ∙ mapped_more f items i item (map g us) (g u) so here same
