-- Two keys, one behind the other: how they are split, and that their order is that of links.
use Rattle.std.proofs.Common.{◌≡◌, ◌⊎◌, ⊎_elim, inl, inr, ℕ, zero, suc, List, [], ◌∷◌, ◌++◌, map, length, take, drop, AllPairs, refl, ap, subst, ◌∙◌}
use Rattle.std.specs.Ordering.{ordering_then}
use Rattle.std.specs.declared.cmp.Ordering.{Ordering}
use Rattle.std.specs.declared.cmp.Ordering.TheVariants.{Less, Equal, Greater}
use Rattle.std.specs.Cmp.Lexicographic.{slice_cmp}
use Rattle.emc_base.specs.Order.{value_cmp}
use Rattle.emc_base.specs.OrderLaws.{value_cmp_apart}
use Rattle.emc_base.proofs.Numbered.{all_pairs_map}
use Rattle.round_trip.specs.Words.{Link, Value}
use Rattle.case_laws.specs.candidates.ViewedLinks.{IsBefore, IsLinkBefore}
use Rattle.query_views.specs.Lent.{link_of}

take_front : (front back : List Value) → take (length front) (front ++ back) ≡ front
take_front [] back = refl
take_front (x ∷ front) back = ap (λ rest. x ∷ rest) (take_front front back)

drop_front : (front back : List Value) → drop (length front) (front ++ back) ≡ back
drop_front [] back = refl
drop_front (x ∷ front) back = drop_front front back

-- both keys of a link, one behind the other, are split to the link
pub split_link : (n : ℕ) (link : Link) → length link.first ≡ n → link_of n (link.first ++ link.second) ≡ link
split_link n link long =
    let Split : ℕ → Type 0 = λ k. link_of k (link.first ++ link.second) ≡ link in
    subst Split long (λ i. record { first = take_front link.first link.second i; second = drop_front link.first link.second i })

-- where both keys come before others, their link does: by the first key, or where this is the same by the second
pub before_split : (n : ℕ) (one other : List Value) → IsBefore one other → IsLinkBefore (link_of n one) (link_of n other)
before_split zero one other before = inr (refl, before)
before_split (suc n) [] [] before = absurd (let never : Equal ≡ Less = before in cc)
before_split (suc n) [] (y ∷ other) before = inl refl
before_split (suc n) (x ∷ one) [] before = absurd (let never : Greater ≡ Less = before in cc)
before_split (suc n) (x ∷ one) (y ∷ other) before = by (value_cmp x y) refl before (before_split n one other)
  where
    by : (order : Ordering) → value_cmp x y ≡ order → ordering_then order (slice_cmp value_cmp one other) ≡ Less
        → (IsBefore one other → IsLinkBefore (link_of n one) (link_of n other)) → IsLinkBefore (link_of (suc n) (x ∷ one)) (link_of (suc n) (y ∷ other))
    by Less is less rest_before = inl (ap (λ order. ordering_then order (slice_cmp value_cmp (take n one) (take n other))) is)
    by Equal is less rest_before = ⊎_elim
        (λ (front : IsBefore (take n one) (take n other)). inl (ap (λ order. ordering_then order (slice_cmp value_cmp (take n one) (take n other))) is ∙ front))
        (λ (rest : (take n one ≡ take n other) × IsBefore (drop n one) (drop n other)).
        let first : x ≡ y = value_cmp_apart x y is in inr ((λ i. first i ∷ rest.0 i), rest.1))
        (rest_before less)
    by Greater is less rest_before = absurd (let never : Greater ≡ Less = less in cc)

-- so links of rising keys rise
pub rising_links : (n : ℕ) (keys : List (List Value)) → AllPairs IsBefore keys → AllPairs IsLinkBefore (map (link_of n) keys)
rising_links n keys rising = all_pairs_map IsLinkBefore (link_of n) keys (λ i j d below within. before_split n _ _ (rising i j d below within))
