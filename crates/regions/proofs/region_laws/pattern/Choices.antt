-- Choices from lists, what is found in a list, and lists without repeats.
use Rattle.std.proofs.Common.{◌≡◌, ◌≢◌, ⊎_elim, List, [], ◌∷◌, map, filter, find, cond, Bool, true, false, not, AllPairs, Contains, Decides, Some, None, refl, sym, ap, subst, ◌∙◌, arith}
use Rattle.std.proofs.lemmas.Bool.Decides.{Decides-not}
use Rattle.std.proofs.lemmas.List.Kept.{AllPairs-cons, AllPairs-filter}
use Rattle.emc_base.proofs.Lists.{all_from_members}
use Rattle.emc_base.proofs.Mapped.{contains_filter}
use Rattle.emc_base.proofs.Numbered.{filter_contains, map_contains}
use Rattle.schema_laws.proofs.state_demand.writings.Decisions.{so_or_not}
use Rattle.schema_laws.proofs.state_demand.lists.Lists.{head_stands, member_cases, member_of_flat_map, none_in_nil, tail_stands}
use Rattle.regions.specs.Lists.{choices, firsts}

module _ {X K : Type 0} (options : K → List X) where
  -- of each list an item is chosen
  pub chosen_from : (keys : List K) (choice : List X) → Contains (choices (map options keys)) choice → (key : K) → Contains keys key
      → (x : X) × Contains choice x × Contains (options key) x
  chosen_from [] choice has key there = absurd (none_in_nil key there)
  chosen_from (k ∷ ks) choice has key there =
      let found = member_of_flat_map (λ x. map (λ others. x ∷ others) (choices (map options ks))) (options k) choice has in
      let rest = map_contains (λ others. found.0 ∷ others) (choices (map options ks)) choice found.2 in
      let P : List X → Type 0 = λ xs. (x : X) × Contains xs x × Contains (options key) x in
      subst P rest.2 (⊎_elim
      (λ (here : key ≡ k). (found.0, head_stands found.0 rest.0, subst (λ one. Contains (options one) found.0) (sym here) found.1))
      (λ (later : Contains ks key). let more = chosen_from ks rest.0 rest.1 key later in (more.0, tail_stands found.0 rest.0 more.0 more.1, more.2))
      (member_cases k ks key there))

  -- and each item is chosen from one of them
  pub chosen_by : (keys : List K) (choice : List X) → Contains (choices (map options keys)) choice → (x : X) → Contains choice x
      → (key : K) × Contains keys key × Contains (options key) x
  chosen_by [] choice has x there = ⊎_elim
      (λ (is : choice ≡ []). absurd (none_in_nil x (subst (λ xs. Contains xs x) is there)))
      (λ (none : Contains [] choice). absurd (none_in_nil choice none))
      (member_cases [] [] choice has)
  chosen_by (k ∷ ks) choice has x there =
      let found = member_of_flat_map (λ y. map (λ others. y ∷ others) (choices (map options ks))) (options k) choice has in
      let rest = map_contains (λ others. found.0 ∷ others) (choices (map options ks)) choice found.2 in
      ⊎_elim
      (λ (here : x ≡ found.0). (k, head_stands k ks, subst (Contains (options k)) (sym here) found.1))
      (λ (later : Contains rest.0 x). let more = chosen_by ks rest.0 rest.1 x later in (more.0, tail_stands k ks more.0 more.1, more.2))
      (member_cases found.0 rest.0 x (subst (λ xs. Contains xs x) (sym rest.2) there))

module _ {X : Type 0} (test : X → Bool) where
  -- what is found stands in the list and passes
  pub found_passes : (xs : List X) (x : X) → find test xs ≡ Some x → Contains xs x × (test x ≡ true)
  found_passes [] x is = cc
  found_passes (y ∷ ys) x is = by (test y) refl is (found_passes ys x)
    where
      by : (b : Bool) → test y ≡ b → cond b (Some y) (find test ys) ≡ Some x → (find test ys ≡ Some x → Contains ys x × (test x ≡ true)) → Contains (y ∷ ys) x × (test x ≡ true)
      by true passes here more = let same : y ≡ x = cc in (subst (Contains (y ∷ ys)) same (head_stands y ys), subst (λ z. test z ≡ true) same passes)
      by false fails later more = let rest = more later in (tail_stands y ys x rest.0, rest.1)

  -- where nothing is found, nothing passes
  pub none_passes : (xs : List X) (x : X) → find test xs ≡ None → Contains xs x → test x ≡ true → ⊥
  none_passes [] x is has passes = none_in_nil x has
  none_passes (y ∷ ys) x is has passes = by (test y) refl is (λ later among. none_passes ys x later among passes)
    where
      by : (b : Bool) → test y ≡ b → cond b (Some y) (find test ys) ≡ None → (find test ys ≡ None → Contains ys x → ⊥) → ⊥
      by true first here more = cc
      by false first later more = ⊎_elim
          (λ (same : x ≡ y). let never : false ≡ true = sym first ∙ ap test (sym same) ∙ passes in cc)
          (λ (among : Contains ys x). more later among)
          (member_cases y ys x has)

module _ {X : Type 0} (same : X → X → Bool) (decides : (x y : X) → Decides (same x y) (x ≡ y)) where
  -- a member stays
  pub contains_firsts : (xs : List X) (y : X) → Contains xs y → Contains (firsts same xs) y
  contains_firsts [] y has = has
  contains_firsts (x ∷ xs) y has =
      let rest : List X = filter (λ other. not (same x other)) (firsts same xs) in
      ⊎_elim
      (λ (here : x ≡ y). subst (Contains (x ∷ rest)) here (head_stands x rest))
      (λ (other : ¬ (x ≡ y)). ⊎_elim
      (λ (here : y ≡ x). absurd (other (sym here)))
      (λ (later : Contains xs y). tail_stands x rest y
      (contains_filter (λ z. not (same x z)) (firsts same xs) y (contains_firsts xs y later) ((Decides-not (same x y) (decides x y)).1 other)))
      (member_cases x xs y has))
      (so_or_not (same x y) (decides x y))

  -- and nothing comes to it
  pub member_of_firsts : (xs : List X) (y : X) → Contains (firsts same xs) y → Contains xs y
  member_of_firsts [] y has = has
  member_of_firsts (x ∷ xs) y has =
      let rest : List X = filter (λ other. not (same x other)) (firsts same xs) in
      ⊎_elim
      (λ (here : y ≡ x). subst (Contains (x ∷ xs)) (sym here) (head_stands x xs))
      (λ (later : Contains rest y). tail_stands x xs y (member_of_firsts xs y (filter_contains (λ z. not (same x z)) (firsts same xs) y later).0))
      (member_cases x rest y has)

  -- no item stands twice
  pub firsts_apart : (xs : List X) → AllPairs (λ x y. x ≢ y) (firsts same xs)
  firsts_apart [] = λ i j d below within. absurd (omega arith)
  firsts_apart (x ∷ xs) =
      let kept : X → Bool = λ other. not (same x other) in
      AllPairs-cons (λ a b. a ≢ b) x (filter kept (firsts same xs))
      (all_from_members (λ y. x ≢ y) (filter kept (firsts same xs)) (λ y has. (Decides-not (same x y) (decides x y)).0 (filter_contains kept (firsts same xs) y has).1))
      (AllPairs-filter (λ a b. a ≢ b) kept (firsts same xs) (firsts_apart xs))
