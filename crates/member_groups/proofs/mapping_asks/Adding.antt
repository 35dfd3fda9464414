-- What comes to what is known, one thing after another.
use Rattle.std.proofs.Common.{◌≡◌, ◌⊎◌, inl, inr, ℕ, ◌+◌, ◌<◌, List, [], ◌∷◌, ◌++◌, true, cond, take, Contains, true≢false, sym, ap, subst, ◌∙◌, arith}
use Rattle.std.specs.BTreeSet.{BTreeSet, IsEmpty, contains, Updates}
use Rattle.std.specs.BTreeMap.{is_at}
use Rattle.std.specs.List.{list_any}
use Rattle.std.specs.Bool.{Decides}
use Rattle.std.specs.Ordering.{is_eq, nat_cmp}
use Rattle.std.specs.declared.cmp.Ordering.{Ordering}
use Rattle.std.proofs.lemmas.Bool.{cases_eq}
use Rattle.std.proofs.lemmas.List.Elements.{Contains-append_left, Contains-push, Contains-push_cases}
use Rattle.emc_base.specs.Lists.{At}
use Rattle.emc_base.proofs.Loops.{take_item}
use Rattle.emc_base.proofs.Members.{contains_nil}
use Rattle.emc_base.proofs.facts.Tests.{by_either, old_or_new}
use Rattle.emc_base.proofs.facts.Orderings.{tells_number}
use Rattle.member_groups.specs.mapping_asks.Adding.{Adds, Each, EachBelow, HasKey, Tells}

module _ {Y : Type 0} where
  -- one kind comes, and then another
  pub adds_both : (P Q before between after : Y → Type 0) → Adds P before between → Adds Q between after → Adds (λ y. P y ⊎ Q y) before after
  adds_both P Q before between after first second = record {
    each = λ y. (
      λ has. elim ((second.each y).0 has) [
        | inl old ↦ elim ((first.each y).0 old) [
          | inl oldest ↦ inl oldest
          | inr of_first ↦ inr (inl of_first)
        ]
        | inr of_second ↦ inr (inr of_second)
      ],
      λ some. elim some [
        | inl old ↦ (second.each y).1 (inl ((first.each y).1 (inl old)))
        | inr by ↦ elim by [
          | inl of_first ↦ (second.each y).1 (inl ((first.each y).1 (inr of_first)))
          | inr of_second ↦ (second.each y).1 (inr of_second)
        ]
      ],
    );
  }

  -- of what comes another word may be said
  pub adds_as : (P Q before after : Y → Type 0) → Tells P Q → Adds P before after → Adds Q before after
  adds_as P Q before after same added = record {
    each = λ y. (
      λ has. elim ((added.each y).0 has) [
        | inl old ↦ inl old
        | inr by ↦ inr ((same y).0 by)
      ],
      λ some. (added.each y).1 (elim some [
        | inl old ↦ inl old
        | inr by ↦ inr ((same y).1 by)
      ]),
    );
  }

  -- nothing comes
  pub adds_nothing : (P known : Y → Type 0) → ((y : Y) → ¬ P y) → Adds P known known
  adds_nothing P known none = record {
    each = λ y. (
      λ has. inl has,
      λ some. elim some [
        | inl old ↦ old
        | inr by ↦ absurd (none y by)
      ],
    );
  }

  -- what is told in one word is told in another
  pub tells_as : (Has P Q : Y → Type 0) → Tells Has P → Tells P Q → Tells Has Q
  tells_as Has P Q told same y = (λ has. (same y).0 ((told y).0 has), λ holds. (told y).1 ((same y).1 holds))

  -- to nothing just this comes
  pub tells_added : (P before after : Y → Type 0) → ((y : Y) → ¬ before y) → Adds P before after → Tells after P
  tells_added P before after none added y = (
    λ has. elim ((added.each y).0 has) [
      | inl old ↦ absurd (none y old)
      | inr by ↦ by
    ],
    λ by. (added.each y).1 (inr by),
  )

  -- one thing comes at the end of a list
  pub adds_last : (xs : List Y) (x : Y) → Adds (λ y. y ≡ x) (Contains xs) (Contains (xs ++ x ∷ []))
  adds_last xs x = record {
    each = λ y. (
      λ has. elim (Contains-push_cases xs x y has) [
        | inl old ↦ inl old
        | inr last ↦ inr (sym last)
      ],
      λ some. elim some [
        | inl old ↦ Contains-append_left xs (x ∷ []) y old
        | inr last ↦ subst (Contains (xs ++ x ∷ [])) (sym last) (Contains-push xs x)
      ],
    );
  }

  module _ {X : Type 0} (P : X → Y → Type 0) where
    -- by no item nothing is so
    pub each_none : (y : Y) → ¬ Each P [] y
    each_none y some = contains_nil some.0 some.1

    -- what is so by one of the items so far or by the next
    pub each_next : (xs : List X) (i : ℕ) (x : X) → At xs i x → Tells (λ y. Each P (take i xs) y ⊎ P x y) (Each P (take (i + 1) xs))
    each_next xs i x here y =
        let is : take (i + 1) xs ≡ take i xs ++ x ∷ [] = take_item xs i x here in (
          λ either. subst (λ some. Each P some y) (sym is) (elim either [
            | inl earlier ↦ (earlier.0, Contains-append_left (take i xs) (x ∷ []) earlier.0 earlier.1, earlier.2)
            | inr last ↦ (x, Contains-push (take i xs) x, last)
          ]),
          λ some.
              (let by = subst (λ some. Each P some y) is some in
              elim (Contains-push_cases (take i xs) x by.0 by.1) [
                | inl earlier ↦ inl (by.0, earlier, by.2)
                | inr last ↦ inr (subst (λ (other : X). P other y) (sym last) by.2)
              ]),
        )

    -- by the next item of a list
    pub adds_next : (xs : List X) (i : ℕ) (x : X) (before between after : Y → Type 0) → At xs i x → Adds (Each P (take i xs)) before between → Adds (P x) between after
        → Adds (Each P (take (i + 1) xs)) before after
    adds_next xs i x before between after here so_far more =
        adds_as (λ y. Each P (take i xs) y ⊎ P x y) (Each P (take (i + 1) xs)) before after (each_next xs i x here)
        (adds_both (Each P (take i xs)) (P x) before between after so_far more)

  module _ (P : ℕ → Y → Type 0) where
    -- by no number nothing is so
    pub below_none : (y : Y) → ¬ EachBelow P 0 y
    below_none y some = absurd (let within : some.0 < 0 = some.1 in omega arith)

    -- what is so by one of the numbers so far or by the next
    pub below_next : (n : ℕ) → Tells (λ y. EachBelow P n y ⊎ P n y) (EachBelow P (n + 1))
    below_next n y = (
      λ either. elim either [
        | inl earlier ↦ (earlier.0, (let within : earlier.0 < n = earlier.1 in omega arith), earlier.2)
        | inr last ↦ (n, omega arith, last)
      ],
      λ some. elim (cases_eq some.0 n) [
        | inl last ↦ inr (subst (λ (i : ℕ). P i y) last some.2)
        | inr other ↦ inl (some.0, (let within : some.0 < n + 1 = some.1 in omega arith), some.2)
      ],
    )

    -- by the next number
    pub adds_below : (n : ℕ) (before between after : Y → Type 0) → Adds (EachBelow P n) before between → Adds (P n) between after → Adds (EachBelow P (n + 1)) before after
    adds_below n before between after so_far more =
        adds_as (λ y. EachBelow P n y ⊎ P n y) (EachBelow P (n + 1)) before after (below_next n) (adds_both (EachBelow P n) (P n) before between after so_far more)

-- one key comes to a set whose order tells keys apart
pub adds_key : {X : Type 0} (cmp : X → X → Ordering) → ((one other : X) → Decides (is_eq (cmp one other)) (one ≡ other)) → (before after : BTreeSet X) (key : X)
    → Updates cmp before after key true → Adds (λ other. other ≡ key) (λ other. contains cmp before other ≡ true) (λ other. contains cmp after other ≡ true)
adds_key {X} cmp tells before after key updates = record {
  each = λ other.
      (let is : contains cmp after other ≡ cond (is_eq (cmp key other)) true (contains cmp before other) = updates.0 other in (
        λ has. old_or_new (is_eq (cmp key other)) (contains cmp before other) (λ eq. sym ((tells key other).0 eq)) (sym is ∙ has),
        λ some. is ∙ by_either (is_eq (cmp key other)) (contains cmp before other)
            (elim some [
              | inl old ↦ inl old
              | inr same ↦ inr ((tells key other).1 (sym same))
            ]),
      ));
}

-- one number comes
pub adds_number : (before after : BTreeSet ℕ) (number : ℕ) → Updates nat_cmp before after number true → Adds (λ k. k ≡ number) (HasKey before) (HasKey after)
adds_number = adds_key nat_cmp tells_number

-- an empty set has no number
pub no_number : (numbers : BTreeSet ℕ) → IsEmpty numbers → (k : ℕ) → ¬ HasKey numbers k
no_number numbers none k has = true≢false (sym has ∙ ap (list_any (is_at (nat_cmp k))) none)
