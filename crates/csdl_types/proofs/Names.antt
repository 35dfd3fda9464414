-- Names in lists: whether all are apart.
use Rattle.std.proofs.Common.{◌≢◌, ℕ, ◌+◌, List, Contains, AllPairs, take, sym, subst, ◌∙◌}
use Rattle.std.proofs.lemmas.List.Quantifiers.{all_pairs_push}
use Rattle.std.proofs.lemmas.List.Elements.{Contains-get_or}
use Rattle.std.proofs.lemmas.Option.{get_or_from_slice_get, slice_get_within}
use Rattle.emc_base.specs.Lists.{At}
use Rattle.emc_base.proofs.Loops.{take_item}
use Rattle.graphs.proofs.base_chains.orders.Orders.{earlier_place}

-- one name more that doesn't stand before
pub apart_more : (names : List (List ℕ)) (i : ℕ) (name : List ℕ) → At names i name → ¬ Contains (take i names) name
    → AllPairs (λ one other. one ≢ other) (take i names) → AllPairs (λ one other. one ≢ other) (take (i + 1) names)
apart_more names i name here new apart = let P : List (List ℕ) → Type 0 = λ xs. AllPairs (λ one other. one ≢ other) xs in
    subst P (sym (take_item names i name here)) (all_pairs_push (λ one other. one ≢ other) (take i names) name apart
    (λ k d within same. new (subst (λ other. Contains (take i names) other) same (Contains-get_or (take i names) k d within))))

-- a name that stands before stands twice
pub not_apart : (names : List (List ℕ)) (i : ℕ) (name : List ℕ) → At names i name → Contains (take i names) name → ¬ AllPairs (λ one other. one ≢ other) names
not_apart names i name here has apart =
    let earlier = earlier_place names i name has in
    apart earlier.0 i name earlier.1 (slice_get_within names i name here)
    (get_or_from_slice_get names earlier.0 name name earlier.2 ∙ sym (get_or_from_slice_get names i name name here))
