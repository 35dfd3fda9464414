-- Lists by numbers, and pairs of members.
use Rattle.std.proofs.Common.{◌≡◌, ◌⊎◌, ⊎_elim, inl, inr, ℕ, zero, suc, ◌+◌, ◌<◌, ◌≤◌, List, [], map, length, slice_get, option_map, unwrap_or, Some, None, AllPairs, Contains, refl, sym, ap, subst, ◌∙◌, arith}
use Rattle.std.proofs.lemmas.List.{length-map}
use Rattle.std.proofs.lemmas.Option.{slice_get-map, slice_get_past, slice_get_within, get_or_from_slice_get}
use Rattle.emc_base.specs.Lists.{At, AtMostOne}
use Rattle.schema_laws.specs.short_values.Numbers.{numbers_from}
use Rattle.schema_laws.proofs.state_demand.lists.Lists.{head_stands, member_cases, none_in_nil, tail_stands}

-- numbers in a row, one after the other
pub length-numbers : (first n : ℕ) → length (numbers_from first n) ≡ n
length-numbers first zero = refl
length-numbers first (suc n) = ap suc (length-numbers (suc first) n)

pub number_at : (first n i : ℕ) → i < n → At (numbers_from first n) i (first + i)
number_at first zero i below = absurd (omega (arith, below))
number_at first (suc n) zero below = let is : first ≡ first + 0 = omega arith in ap Some is
number_at first (suc n) (suc i) below =
    let less : i < n = omega (arith, below) in
    let is : suc first + i ≡ first + suc i = omega arith in
    number_at (suc first) n i less ∙ ap Some is

pub number_there : (first n k : ℕ) → first ≤ k → k < first + n → Contains (numbers_from first n) k
number_there first zero k from below = absurd (omega (arith, from, below))
number_there first (suc n) k from below = ⊎_elim
    (λ (here : k ≡ first). subst (Contains (numbers_from first (suc n))) (sym here) (head_stands first (numbers_from (suc first) n)))
    (λ (later : suc first ≤ k). tail_stands first (numbers_from (suc first) n) k (number_there (suc first) n k later (omega (arith, below))))
    (split first k from)
  where
    split : (a b : ℕ) → a ≤ b → (b ≡ a) ⊎ (suc a ≤ b)
    split zero zero from = inl refl
    split zero (suc b) from = inr (omega arith)
    split (suc a) zero from = absurd (omega (arith, from))
    split (suc a) (suc b) from = let less : a ≤ b = omega (arith, from) in ⊎_elim
        (λ (here : b ≡ a). inl (ap suc here))
        (λ (later : suc a ≤ b). inr (omega (arith, later)))
        (split a b less)

pub number_within : (first n k : ℕ) → Contains (numbers_from first n) k → (first ≤ k) × (k < first + n)
number_within first zero k has = absurd (none_in_nil k has)
number_within first (suc n) k has = ⊎_elim
    (λ (here : k ≡ first). (omega (arith, here), omega (arith, here)))
    (λ (later : Contains (numbers_from (suc first) n) k). let rest = number_within (suc first) n k later in (omega (arith, rest.0), omega (arith, rest.1)))
    (member_cases first (numbers_from (suc first) n) k has)

-- what is made of each number stands at its place
pub made_at : {Y : Type 0} (f : ℕ → List Y) (count i : ℕ) → (count ≤ i → f i ≡ []) → unwrap_or (slice_get (map f (numbers_from 0 count)) i) [] ≡ f i
made_at {Y} f count i beyond = ⊎_elim
    (λ (below : i < count).
    let here : 0 + i ≡ i = omega arith in
    ap (λ found. unwrap_or found []) (slice_get-map f (numbers_from 0 count) i) ∙ ap (λ found. unwrap_or (option_map f found) []) (number_at 0 count i below) ∙ ap f here)
    (λ (past : count ≤ i).
    let none : slice_get (map f (numbers_from 0 count)) i ≡ None = slice_get_past (map f (numbers_from 0 count)) i
    (let is = length-map (numbers_from 0 count) f ∙ length-numbers 0 count in omega (arith, is, past)) in
    ap (λ found. unwrap_or found []) none ∙ sym (beyond past))
    (less_or i count)
  where
    less_or : (a b : ℕ) → (a < b) ⊎ (b ≤ a)
    less_or a zero = inr (omega arith)
    less_or zero (suc b) = inl (omega arith)
    less_or (suc a) (suc b) = ⊎_elim
        (λ (below : a < b). inl (omega (arith, below)))
        (λ (past : b ≤ a). inr (omega (arith, past)))
        (less_or a b)

-- of two items of which not both are so one at most is so
pub most_one : {X : Type 0} (P : X → Type 0) (xs : List X) → AllPairs (λ x y. P x → P y → ⊥) xs → AtMostOne P xs
most_one P xs pairs i j x y at_x at_y holds_x holds_y = ⊎_elim
    (λ (same : i ≡ j). same)
    (λ (apart : (i < j) ⊎ (j < i)). absurd (⊎_elim
    (λ (below : i < j). clash i j x y at_x at_y below holds_x holds_y)
    (λ (above : j < i). clash j i y x at_y at_x above holds_y holds_x)
    apart))
    (compare i j)
  where
    compare : (a b : ℕ) → (a ≡ b) ⊎ (a < b) ⊎ (b < a)
    compare zero zero = inl refl
    compare zero (suc b) = inr (inl (omega arith))
    compare (suc a) zero = inr (inr (omega arith))
    compare (suc a) (suc b) = ⊎_elim
        (λ (same : a ≡ b). inl (ap suc same))
        (λ (apart : (a < b) ⊎ (b < a)). inr (⊎_elim
        (λ (below : a < b). inl (omega (arith, below)))
        (λ (above : b < a). inr (omega (arith, above)))
        apart))
        (compare a b)

    clash : (k l : ℕ) (u v : _) → At xs k u → At xs l v → k < l → P u → P v → ⊥
    clash k l u v at_u at_v below holds_u holds_v =
        let is_u = get_or_from_slice_get xs k u u at_u in
        let is_v = get_or_from_slice_get xs l v u at_v in
        pairs k l u below (slice_get_within xs l v at_v) (subst P (sym is_u) holds_u) (subst P (sym is_v) holds_v)
