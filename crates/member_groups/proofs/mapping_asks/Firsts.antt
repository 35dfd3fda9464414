-- The first property or column of each number, and the numbers that stand with two.
use Rattle.std.proofs.Common.{◌≡◌, ◌≢◌, ◌⊎◌, ◌↔◌, ◌==◌, inl, inr, ℕ, List, [], ◌∷◌, ◌++◌, Option, Some, None, IsSome, Bool, true, false, not, cond, Contains, refl, sym, ap, subst, ◌∙◌}
use Rattle.std.specs.Bool.{Decides}
use Rattle.std.specs.BTreeMap.{BTreeMap, get, Updates}
use Rattle.std.specs.BTreeSet.{BTreeSet}
use Rattle.std.specs.BTreeSet as sorted
use Rattle.std.specs.Option.{unwrap_or}
use Rattle.std.specs.Ordering.{is_eq, nat_cmp}
use Rattle.std.proofs.lemmas.Bool.{both_ways, not-false, not-true}
use Rattle.std.proofs.lemmas.Bool.Decides.{Decides-and, Decides-eqb}
use Rattle.std.proofs.lemmas.List.Elements.{Contains-append_left, Contains-push, Contains-push_cases}
use Rattle.std.proofs.lemmas.Option.{same_Some}
use Rattle.emc_base.proofs.Members.{contains_nil}
use Rattle.emc_base.proofs.facts.Orderings.{tells_number}
use Rattle.member_groups.specs.contracts.mapping_asks.member.MemberIdPartialEq.TheImpl as member_equal
use Rattle.member_groups.specs.declared.mapping_asks.member.MemberId.{MemberId}
use Rattle.member_groups.specs.declared.mapping_asks.member.MemberId.TheVariants.{Column, Prop}
use Rattle.member_groups.specs.mapping_asks.Adding.{HasKey, Tells}
use Rattle.member_groups.specs.mapping_asks.Several.{StandsWithTwo}
use Rattle.member_groups.proofs.mapping_asks.Adding.{adds_number}

-- whether two properties or columns are equal
abbrev pub member_eq : MemberId → MemberId → Bool
member_eq = (member_equal.ghosts).eq

-- that tells them apart
pub tells_member : (one other : MemberId) → Decides (member_eq one other) (one ≡ other)
tells_member (Prop p) (Prop q) = (
  λ is. (let index : p.index ≡ q.index = (Decides-eqb p.index q.index).0 is in λ i. Prop (record { index = index i })),
  λ same. (Decides-eqb p.index q.index).1 cc,
)
tells_member (Column t c) (Column u d) =
    let both = Decides-and (t.index == u.index) (c.index == d.index) (Decides-eqb t.index u.index) (Decides-eqb c.index d.index) in (
      λ is. (let parts = both.0 is in λ i. Column (record { index = parts.0 i }) (record { index = parts.1 i })),
      λ same. both.1 (cc, cc),
    )
tells_member (Prop p) (Column u d) = (λ is. absurd cc, λ same. absurd cc)
tells_member (Column t c) (Prop q) = (λ is. absurd cc, λ same. absurd cc)

-- among these, each number that stands has one of its own noted, and the numbers that stand with two are known
pub record HoldsFirsts (entries : List (ℕ × MemberId)) (firsts : BTreeMap ℕ MemberId) (several : BTreeSet ℕ) : Type 0 where
  pub known : (k : ℕ) (member : MemberId) → get nat_cmp firsts k ≡ Some member → Contains entries (k, member)
  pub noted : (k : ℕ) (member : MemberId) → Contains entries (k, member) → IsSome (get nat_cmp firsts k)
  pub told : Tells (HasKey several) (StandsWithTwo (Contains entries))

-- none stands at first
pub no_firsts : (firsts : BTreeMap ℕ MemberId) (several : BTreeSet ℕ) → ((k : ℕ) → get nat_cmp firsts k ≡ None) → ((k : ℕ) → ¬ HasKey several k) → HoldsFirsts [] firsts several
no_firsts firsts several none never = record {
  known = λ k member is. absurd (let not : get nat_cmp firsts k ≡ None = none k in cc);
  noted = λ k member has. absurd (contains_nil (k, member) has);
  told = λ k. (λ has. absurd (never k has), λ two. absurd (contains_nil (k, two.0) two.2));
}

module _ (entries : List (ℕ × MemberId)) (firsts after : BTreeMap ℕ MemberId) (several : BTreeSet ℕ) (so_far : HoldsFirsts entries firsts several) (k : ℕ) (member first : MemberId)
    (is_first : first ≡ unwrap_or (get nat_cmp firsts k) member) (updates : Updates nat_cmp firsts after k (Some first)) where
  abbrev more : List (ℕ × MemberId)
  more = entries ++ (k, member) ∷ []

  -- what stands stood before, or is this
  standing : (q : ℕ) (other : MemberId) → Contains more (q, other) → Contains entries (q, other) ⊎ ((q ≡ k) × (other ≡ member))
  standing q other has = elim (Contains-push_cases entries (k, member) (q, other) has) [
    | inl old ↦ inl old
    | inr last ↦ inr (sym (ap (λ (e : ℕ × MemberId). e.0) last), sym (ap (λ (e : ℕ × MemberId). e.1) last))
  ]

  -- the first of the number is among those so far, or it is this
  first_among : Contains entries (k, first) ⊎ ((q : ℕ) (other : MemberId) → Contains entries (q, other) → q ≢ k) × (first ≡ member)
  first_among = by (get nat_cmp firsts k) refl is_first
    where
      by : (found : Option MemberId) → get nat_cmp firsts k ≡ found → first ≡ unwrap_or found member
          → Contains entries (k, first) ⊎ ((q : ℕ) (other : MemberId) → Contains entries (q, other) → q ≢ k) × (first ≡ member)
      by (Some old) found is = inl (subst (λ (m : MemberId). Contains entries (k, m)) (sym is) (so_far.known k old found))
      by None found is = inr (
        λ q other has same.
            (let P : ℕ → Type 0 = λ n. IsSome (get nat_cmp firsts n) in
            let some : IsSome (get nat_cmp firsts k) = subst P same (so_far.noted q other has) in
            cc),
        is,
      )

  first_stands : Contains more (k, first)
  first_stands = elim first_among [
    | inl old ↦ Contains-append_left entries ((k, member) ∷ []) (k, first) old
    | inr new ↦ subst (λ (m : MemberId). Contains more (k, m)) (sym new.1) (Contains-push entries (k, member))
  ]

  known_more : (q : ℕ) (other : MemberId) → get nat_cmp after q ≡ Some other → Contains more (q, other)
  known_more q other found = by (is_eq (nat_cmp k q)) refl (sym (updates.0 q) ∙ found)
    where
      by : (b : Bool) → is_eq (nat_cmp k q) ≡ b → cond b (Some first) (get nat_cmp firsts q) ≡ Some other → Contains more (q, other)
      by true here is = subst (λ (e : ℕ × MemberId). Contains more e) (λ i. ((tells_number k q).0 here i, same_Some first other is i)) first_stands
      by false there is = Contains-append_left entries ((k, member) ∷ []) (q, other) (so_far.known q other is)

  noted_more : (q : ℕ) (other : MemberId) → Contains more (q, other) → IsSome (get nat_cmp after q)
  noted_more q other has = subst IsSome (sym (updates.0 q)) (by (is_eq (nat_cmp k q)) refl (standing q other has))
    where
      by : (b : Bool) → is_eq (nat_cmp k q) ≡ b → Contains entries (q, other) ⊎ ((q ≡ k) × (other ≡ member)) → IsSome (cond b (Some first) (get nat_cmp firsts q))
      by true here either = refl
      by false there (inl old) = so_far.noted q other old
      by false there (inr last) = absurd (let is = (tells_number k q).1 (sym last.0) in cc)

  -- this makes a number stand with two just where the first of the number is another
  two_more : (q : ℕ) → StandsWithTwo (Contains more) q ↔ (StandsWithTwo (Contains entries) q ⊎ ((q ≡ k) × (first ≢ member)))
  two_more q = (
    λ two. by two.0 two.1 (standing q two.0 two.2) (standing q two.1 two.3) two.4,
    λ either. elim either [
      | inl old ↦ (old.0, old.1, Contains-append_left entries ((k, member) ∷ []) (q, old.0) old.2, Contains-append_left entries ((k, member) ∷ []) (q, old.1) old.3, old.4)
      | inr new ↦ let P : ℕ → Type 0 = λ n. StandsWithTwo (Contains more) n in subst P (sym new.0) (first, member, first_stands, Contains-push entries (k, member), new.1)
    ],
  )
    where
      -- one that stood, and this
      mixed : (other : MemberId) → Contains entries (q, other) → q ≡ k → other ≢ member → StandsWithTwo (Contains entries) q ⊎ ((q ≡ k) × (first ≢ member))
      mixed other has same apart = by_first (member_eq first member) refl
        where
          by_first : (b : Bool) → member_eq first member ≡ b → StandsWithTwo (Contains entries) q ⊎ ((q ≡ k) × (first ≢ member))
          by_first true is =
              let same_first : first ≡ member = (tells_member first member).0 is in
              elim first_among [
                | inl old ↦ inl (
                  other,
                  first,
                  has,
                  subst (λ (n : ℕ). Contains entries (n, first)) (sym same) old,
                  λ one. apart (one ∙ same_first),
                )
                | inr new ↦ absurd (new.0 q other has same)
              ]
          by_first false not = inr (same, λ one. absurd (let is = (tells_member first member).1 one in cc))

      by : (one other : MemberId) → Contains entries (q, one) ⊎ ((q ≡ k) × (one ≡ member)) → Contains entries (q, other) ⊎ ((q ≡ k) × (other ≡ member)) → one ≢ other
          → StandsWithTwo (Contains entries) q ⊎ ((q ≡ k) × (first ≢ member))
      by one other (inl a) (inl b) apart = inl (one, other, a, b, apart)
      by one other (inl a) (inr b) apart = mixed one a b.0 (λ same. apart (same ∙ sym b.1))
      by one other (inr a) (inl b) apart = mixed other b a.0 (λ same. apart (a.1 ∙ sym same))
      by one other (inr a) (inr b) apart = absurd (apart (a.1 ∙ sym b.1))

  -- one more, of which the first is no other
  pub same_more : not (member_eq first member) ≡ false → HoldsFirsts more after several
  same_more is = record {
    known = known_more;
    noted = noted_more;
    told = λ q. (
      λ has. (two_more q).1 (inl ((so_far.told q).0 has)),
      λ two. elim ((two_more q).0 two) [
        | inl old ↦ (so_far.told q).1 old
        | inr new ↦ absurd (new.1 ((tells_member first member).0 (not-false (member_eq first member) is)))
      ],
    );
  }

  -- one more, of which the first is another
  pub other_more : (now : BTreeSet ℕ) → not (member_eq first member) ≡ true → sorted.Updates nat_cmp several now k true → HoldsFirsts more after now
  other_more now not_same inserted = record {
    known = known_more;
    noted = noted_more;
    told = λ q. (
      λ has. (two_more q).1 (elim (((adds_number several now k inserted).each q).0 has) [
        | inl old ↦ inl ((so_far.told q).0 old)
        | inr same ↦ inr (same, λ one. both_ways (member_eq first member) (not-true (member_eq first member) not_same) ((tells_member first member).1 one))
      ]),
      λ two. ((adds_number several now k inserted).each q).1 (elim ((two_more q).0 two) [
        | inl old ↦ inl ((so_far.told q).1 old)
        | inr new ↦ inr new.0
      ]),
    );
  }

-- where the same stand, the same numbers stand with two
pub stands_as : (Stands Others : ℕ × MemberId → Type 0) → Tells Stands Others → Tells (StandsWithTwo Stands) (StandsWithTwo Others)
stands_as Stands Others same k = (
  λ two. (two.0, two.1, (same (k, two.0)).0 two.2, (same (k, two.1)).0 two.3, two.4),
  λ two. (two.0, two.1, (same (k, two.0)).1 two.2, (same (k, two.1)).1 two.3, two.4),
)
