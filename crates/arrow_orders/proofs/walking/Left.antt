-- How many steps are left where a place is marked, or one more of those that it waits for is taken.
use Rattle.std.proofs.Common.{◌≡◌, ℕ, zero, suc, ◌+◌, List, [], ◌∷◌, set, arith}
use Rattle.emc_base.specs.Lists.{At}
use Rattle.arrow_orders.specs.Walks.{left, weight}
use Rattle.arrow_orders.specs.declared.walk.Mark.{Mark}

-- another mark at a place
pub left_marked : (ends : List (List ℕ)) (marks : List Mark) (taken : List ℕ) (v count : ℕ) (listed : List ℕ) (old now : Mark) → At ends v listed → At marks v old → At taken v count
    → left ends (set marks v now) taken + weight listed old count ≡ left ends marks taken + weight listed now count
left_marked [] marks taken v count listed old now at_ends at_marks at_taken = absurd cc
left_marked (one ∷ ends) [] taken v count listed old now at_ends at_marks at_taken = absurd cc
left_marked (one ∷ ends) (mark ∷ marks) [] v count listed old now at_ends at_marks at_taken = absurd cc
left_marked (one ∷ ends) (mark ∷ marks) (n ∷ taken) zero count listed old now at_ends at_marks at_taken =
    let same_listed : one ≡ listed = cc in
    let same_mark : mark ≡ old = cc in
    let same_count : n ≡ count = cc in
    let first : weight one mark n ≡ weight listed old count = λ k. weight (same_listed k) (same_mark k) (same_count k) in
    let second : weight one now n ≡ weight listed now count = λ k. weight (same_listed k) now (same_count k) in
    omega (arith, first, second)
left_marked (one ∷ ends) (mark ∷ marks) (n ∷ taken) (suc v) count listed old now at_ends at_marks at_taken =
    let rest = left_marked ends marks taken v count listed old now at_ends at_marks at_taken in omega (arith, rest)

-- another count at a place
pub left_taken : (ends : List (List ℕ)) (marks : List Mark) (taken : List ℕ) (v count now : ℕ) (listed : List ℕ) (mark : Mark) → At ends v listed → At marks v mark → At taken v count
    → left ends marks (set taken v now) + weight listed mark count ≡ left ends marks taken + weight listed mark now
left_taken [] marks taken v count now listed mark at_ends at_marks at_taken = absurd cc
left_taken (one ∷ ends) [] taken v count now listed mark at_ends at_marks at_taken = absurd cc
left_taken (one ∷ ends) (other ∷ marks) [] v count now listed mark at_ends at_marks at_taken = absurd cc
left_taken (one ∷ ends) (other ∷ marks) (n ∷ taken) zero count now listed mark at_ends at_marks at_taken =
    let same_listed : one ≡ listed = cc in
    let same_mark : other ≡ mark = cc in
    let same_count : n ≡ count = cc in
    let first : weight one other n ≡ weight listed mark count = λ k. weight (same_listed k) (same_mark k) (same_count k) in
    let second : weight one other now ≡ weight listed mark now = λ k. weight (same_listed k) (same_mark k) now in
    omega (arith, first, second)
left_taken (one ∷ ends) (other ∷ marks) (n ∷ taken) (suc v) count now listed mark at_ends at_marks at_taken =
    let rest = left_taken ends marks taken v count now listed mark at_ends at_marks at_taken in omega (arith, rest)
