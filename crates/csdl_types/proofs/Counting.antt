-- The numbers of members, one member further.
use Rattle.std.proofs.Common.{rules, arith, ◌≡◌, ◌⊎◌, ⊎_elim, ◌≤◌, ◌≤ℤ◌, subst, ℕ, suc, ◌+◌, ℤ, ◌+ℤ◌, pos, List, [], ◌∷◌, ◌++◌, append_assoc, drop, get_or, unwrap_or, sym, ap, ◌∙◌}
use Rattle.std.proofs.Math.Seq.{drop-cons}
use Rattle.std.proofs.lemmas.Option.{slice_get_within, get_or_from_slice_get}
use Rattle.emc_base.specs.Lists.{At}
use Rattle.csdl_names.specs.declared.csdl_lists.raw.RawMember.{RawMember}
use Rattle.csdl_types.specs.Numbers.{numbers_from}

-- the number of a member is made, and those behind it are left
pub numbers_more : (members : List RawMember) (i : ℕ) (member : RawMember) (made : List ℤ) (next number after : ℤ) → At members i member
    → number ≡ unwrap_or member.value next → after ≡ number +ℤ pos 1
    → (made ++ number ∷ []) ++ numbers_from after (drop (i + 1) members) ≡ made ++ numbers_from next (drop i members)
numbers_more members i member made next number after here is up =
    append_assoc made (number ∷ []) (numbers_from after (drop (i + 1) members))
    ∙ ap (λ rest. made ++ rest) (step ∙ ap (numbers_from next) (sym left))
  where
    left : drop i members ≡ member ∷ drop (i + 1) members
    left = drop-cons members i member (slice_get_within members i member here)
        ∙ ap (λ n. get_or members i member ∷ drop n members) (let up : suc i ≡ i + 1 = omega arith in up)
        ∙ ap (λ first. first ∷ drop (i + 1) members) (get_or_from_slice_get members i member member here)

    step : number ∷ numbers_from after (drop (i + 1) members) ≡ numbers_from next (member ∷ drop (i + 1) members)
    step = (λ k. is k ∷ numbers_from ((up ∙ ap (λ n. n +ℤ pos 1) is) k) (drop (i + 1) members))

-- one more than a number that is at most so great
plus_one : (number : ℤ) (most : ℕ) → number ≤ℤ pos most → (number +ℤ pos 1) ≤ℤ pos (most + 1)
plus_one number most upto = search rules

-- what is at most one number is at most a greater one
raised : (number : ℤ) (most more : ℕ) → most ≤ more → number ≤ℤ pos most → number ≤ℤ pos more
raised number most more le upto = search rules

-- the next number stays close to those of 64 bits
pub next_upto : (next number after : ℤ) (i : ℕ) → next ≤ℤ pos (9223372036854775808 + i) → (number ≡ next) ⊎ (number ≤ℤ pos 9223372036854775807)
    → after ≡ number +ℤ pos 1 → after ≤ℤ pos (9223372036854775808 + (i + 1))
next_upto next number after i upto is up =
    subst (λ (n : ℤ). n ≤ℤ pos (9223372036854775808 + (i + 1))) (sym up)
    (⊎_elim
    (λ (same : number ≡ next). raised (number +ℤ pos 1) (9223372036854775808 + i + 1) (9223372036854775808 + (i + 1)) (omega arith) (plus_one number (9223372036854775808 + i) (subst (λ (n : ℤ). n ≤ℤ pos (9223372036854775808 + i)) (sym same) upto)))
    (λ (small : number ≤ℤ pos 9223372036854775807). raised (number +ℤ pos 1) (9223372036854775807 + 1) (9223372036854775808 + (i + 1)) (omega arith) (plus_one number 9223372036854775807 small))
    is)
