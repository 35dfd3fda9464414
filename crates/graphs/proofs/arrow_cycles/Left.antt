-- How many steps of a search are left when a place is marked.
use Rattle.std.proofs.Common.{◌≡◌, ℕ, zero, suc, ◌+◌, ◌≤◌, List, [], ◌∷◌, length, set, ap, arith}
use Rattle.emc_base.specs.Lists.{At}
use Rattle.graphs.specs.arrow_cycles.Searches.{left_marks}
use Rattle.graphs.specs.declared.arrow_cycles.search.Mark.{Mark}
use Rattle.graphs.specs.declared.arrow_cycles.search.Mark.TheVariants.{New, OnPath, Closed}

-- a new place that comes on the path leaves two steps fewer, and one fewer for each of its arrows
pub left_opened : (ends : List (List ℕ)) (marks : List Mark) (v n : ℕ) (listed : List ℕ) → At ends v listed → At marks v New
    → left_marks ends (set marks v (OnPath n)) + length listed + 2 ≡ left_marks ends marks
left_opened [] marks v n listed at new = absurd cc
left_opened (one ∷ ends) [] v n listed at new = absurd cc
left_opened (one ∷ ends) (New ∷ marks) zero n listed at new = let same : one ≡ listed = cc in let e : length one ≡ length listed = ap length same in omega (arith, e)
left_opened (one ∷ ends) (OnPath m ∷ marks) zero n listed at new = absurd cc
left_opened (one ∷ ends) (Closed m ∷ marks) zero n listed at new = absurd cc
left_opened (one ∷ ends) (New ∷ marks) (suc v) n listed at new = let rest = left_opened ends marks v n listed at new in omega (arith, rest)
left_opened (one ∷ ends) (OnPath m ∷ marks) (suc v) n listed at new = left_opened ends marks v n listed at new
left_opened (one ∷ ends) (Closed m ∷ marks) (suc v) n listed at new = left_opened ends marks v n listed at new

-- a place that becomes part of a complete component leaves no more
pub left_closed : (ends : List (List ℕ)) (marks : List Mark) (v n : ℕ) → left_marks ends (set marks v (Closed n)) ≤ left_marks ends marks
left_closed [] marks v n = omega arith
left_closed (one ∷ ends) [] v n = omega arith
left_closed (one ∷ ends) (New ∷ marks) zero n = omega arith
left_closed (one ∷ ends) (OnPath m ∷ marks) zero n = omega arith
left_closed (one ∷ ends) (Closed m ∷ marks) zero n = omega arith
left_closed (one ∷ ends) (New ∷ marks) (suc v) n = let rest = left_closed ends marks v n in omega (arith, rest)
left_closed (one ∷ ends) (OnPath m ∷ marks) (suc v) n = left_closed ends marks v n
left_closed (one ∷ ends) (Closed m ∷ marks) (suc v) n = left_closed ends marks v n
