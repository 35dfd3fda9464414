-- What is told by comparing: tests of an ordering, and numbers that are tied or in order.
use Rattle.std.proofs.Common.{◌≡◌, ◌≢◌, ⊎_elim, ℕ, ◌<◌, ◌≤◌, true, refl, sym, ap, ◌∙◌}
use Rattle.std.specs.Bool.{Decides}
use Rattle.std.specs.Cmp.{nat_cmp_is, unsigned_ties}
use Rattle.std.specs.Ordering.{is_eq, is_lt, nat_cmp, ordering_then}
use Rattle.std.specs.Prelude.{◌==◌}
use Rattle.std.specs.declared.cmp.Ordering.{Ordering}
use Rattle.std.specs.declared.cmp.Ordering.TheVariants.{Less, Equal, Greater}
use Rattle.std.proofs.lemmas.Bool.{cases_lt}
use Rattle.std.proofs.lemmas.Bool.Decides.{Decides-at, Decides-eqb}
use Rattle.std.proofs.lemmas.Map.Lookups.{exact_pairs, exact_unsigned}

pub is_equal : (order : Ordering) → is_eq order ≡ true → order ≡ Equal
is_equal Less told = absurd cc
is_equal Equal told = refl
is_equal Greater told = absurd cc

pub is_less : (order : Ordering) → is_lt order ≡ true → order ≡ Less
is_less Less told = refl
is_less Equal told = absurd cc
is_less Greater told = absurd cc

pub equal_upto : (order : Ordering) → order ≡ Equal → order ≢ Greater
equal_upto order is = λ greater. let both : Equal ≡ Greater = sym is ∙ greater in absurd cc

-- a number that doesn't come after another is no greater
pub not_greater : (one other : ℕ) → nat_cmp one other ≢ Greater → one ≤ other
not_greater one other not = ⊎_elim (λ (less : other < one). absurd (not (sym (nat_cmp_is one other Greater less)))) (λ (fine : one ≤ other). fine) (cases_lt other one)

-- numbers that are tied are one
pub tells_number : (one other : ℕ) → Decides (is_eq (nat_cmp one other)) (one ≡ other)
tells_number one other = Decides-at (is_eq (nat_cmp one other)) (one == other) (sym (unsigned_ties one other)) (Decides-eqb one other)

-- and so are two pairs of them
pub both_numbers : (a b c d : ℕ) → is_eq (ordering_then (nat_cmp a c) (nat_cmp b d)) ≡ true → (a ≡ c) × (b ≡ d)
both_numbers a b c d is =
    let same : (a, b) ≡ (c, d) = exact_pairs nat_cmp nat_cmp exact_unsigned exact_unsigned (a, b) (c, d) (is_equal (ordering_then (nat_cmp a c) (nat_cmp b d)) is) in
    (ap (λ (p : ℕ × ℕ). p.0) same, ap (λ (p : ℕ × ℕ). p.1) same)
