-- Numbers that are counted up to a bound, added and multiplied.
use Rattle.std.proofs.Common.{◌≡◌, ⊎_elim, ℕ, zero, suc, ◌+◌, ◌*◌, ◌<◌, ◌≤◌, sym, ap, ◌∙◌, arith}
use Rattle.std.proofs.Math.Nat.{mul_comm, mul-suc, mul-zero}
use Rattle.std.proofs.lemmas.Bool.{cases_lt}
use Rattle.region_partition.specs.region_lists.Counts.{capped}

pub capped_below : (n : ℕ) → capped n ≤ 1048576
capped_below n = omega arith

few : (n : ℕ) → n ≤ 1048576 → capped n ≡ n
few n small = omega (arith, small)

many : (n : ℕ) → 1048576 ≤ n → capped n ≡ 1048576
many n large = omega (arith, large)

-- a sum of numbers that are counted so
pub capped_sum : (a b : ℕ) → capped (capped a + capped b) ≡ capped (a + b)
capped_sum a b = omega arith

-- at least one of what is at least the bound
enough : (a b : ℕ) → 1048576 ≤ a → 1048576 ≤ a * suc b
enough a b large = let rest : ℕ = a * b in let more : a * suc b ≡ rest + a = mul-suc a b in omega (arith, large, more)

-- a product of numbers of which the first is counted so
pub capped_times : (a b : ℕ) → capped (capped a * b) ≡ capped (a * b)
capped_times a zero = ap capped (mul-zero (capped a) ∙ sym (mul-zero a))
capped_times a (suc b) = ⊎_elim
    (λ (large : 1048576 < a).
    let above : 1048576 ≤ a = omega (arith, large) in
    let all : capped a ≡ 1048576 = many a above in
    ap (λ n. capped (n * suc b)) all ∙ many (1048576 * suc b) (enough 1048576 b (omega arith)) ∙ sym (many (a * suc b) (enough a b above)))
    (λ (small : a ≤ 1048576). ap (λ n. capped (n * suc b)) (few a small))
    (cases_lt 1048576 a)

-- or both
pub capped_product : (a b : ℕ) → capped (capped a * capped b) ≡ capped (a * b)
capped_product a b =
    capped_times a (capped b) ∙ ap capped (mul_comm a (capped b)) ∙ capped_times b a ∙ ap capped (mul_comm b a)
