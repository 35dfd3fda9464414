-- What comes to those that are known, one after another.
use Rattle.std.proofs.Common.{◌≡◌, ◌⊎◌, ◌↔◌, inl, inr, ℕ, ◌+◌, List, [], ◌∷◌, ◌++◌, true, cond, take, refl, sym, ap, subst, ◌∙◌}
use Rattle.std.specs.BTreeSet.{contains, Updates}
use Rattle.std.specs.Ordering.{is_eq}
use Rattle.std.proofs.lemmas.List.Elements.{Contains-append_left, Contains-push, Contains-push_cases}
use Rattle.emc_base.specs.Lists.{At}
use Rattle.emc_base.proofs.Loops.{take_item}
use Rattle.emc_base.proofs.Members.{contains_nil}
use Rattle.emc_base.proofs.facts.Tests.{by_either, old_or_new}
use Rattle.round_trip.specs.soundness.mappings.Joined.{Member}
use Rattle.member_groups.specs.declared.joined_groups.groups.Groups.{Groups}
use Rattle.msl_checks.specs.barred_members.Added.{Adds, Each}
use Rattle.member_groups.specs.joined_groups.Labels.{label_cmp, label_of}
use Rattle.msl_checks.specs.declared.barred_members.barred.Barred.{Barred}
use Rattle.member_groups.proofs.joined_groups.Labelled.{tells_label}

-- one kind comes, and then another
pub adds_both : (P Q : Member → Type 0) (before between after : Barred) → Adds P before between → Adds Q between after → Adds (λ member. P member ⊎ Q member) before after
adds_both P Q before between after first second = record {
  groups = second.groups ∙ first.groups;
  labels = λ label. (
    λ has. elim ((second.labels label).0 has) [
      | inl old ↦ elim ((first.labels label).0 old) [
        | inl oldest ↦ inl oldest
        | inr by ↦ inr (by.0, inl by.1, by.2)
      ]
      | inr by ↦ inr (by.0, inr by.1, subst (λ (groups : Groups). label_of groups by.0 ≡ label) first.groups by.2)
    ],
    λ some. elim some [
      | inl old ↦ (second.labels label).1 (inl ((first.labels label).1 (inl old)))
      | inr by ↦ elim by.1 [
        | inl of_first ↦ (second.labels label).1 (inl ((first.labels label).1 (inr (by.0, of_first, by.2))))
        | inr of_second ↦ (second.labels label).1 (inr (by.0, of_second, subst (λ (groups : Groups). label_of groups by.0 ≡ label) (sym first.groups) by.2))
      ]
    ],
  );
}

-- of what comes another word may be said
pub adds_as : (P Q : Member → Type 0) → ((member : Member) → P member ↔ Q member) → (before after : Barred) → Adds P before after → Adds Q before after
adds_as P Q same before after added = record {
  groups = added.groups;
  labels = λ label. (
    λ has. elim ((added.labels label).0 has) [
      | inl old ↦ inl old
      | inr by ↦ inr (by.0, (same by.0).0 by.1, by.2)
    ],
    λ some. (added.labels label).1 (elim some [
      | inl old ↦ inl old
      | inr by ↦ inr (by.0, (same by.0).1 by.1, by.2)
    ]),
  );
}

-- nothing comes
pub adds_nothing : (P : Member → Type 0) → ((member : Member) → ¬ P member) → (barred : Barred) → Adds P barred barred
adds_nothing P none barred = record {
  groups = refl;
  labels = λ label. (
    λ has. inl has,
    λ some. elim some [
      | inl old ↦ old
      | inr by ↦ absurd (none by.0 by.1)
    ],
  );
}

module _ {X : Type 0} (P : X → Member → Type 0) where
  -- by no item nothing comes
  pub adds_none : (barred : Barred) → Adds (Each P []) barred barred
  adds_none barred = adds_nothing (Each P []) (λ member some. contains_nil some.0 some.1) barred

  one_more : (xs : List X) (x : X) (member : Member) → (Each P xs member ⊎ P x member) ↔ Each P (xs ++ x ∷ []) member
  one_more xs x member = (
    λ either. elim either [
      | inl earlier ↦ (earlier.0, Contains-append_left xs (x ∷ []) earlier.0 earlier.1, earlier.2)
      | inr last ↦ (x, Contains-push xs x, last)
    ],
    λ some. elim (Contains-push_cases xs x some.0 some.1) [
      | inl earlier ↦ inl (some.0, earlier, some.2)
      | inr last ↦ inr (subst (λ (y : X). P y member) (sym last) some.2)
    ],
  )

  -- by one item more
  adds_more : (xs : List X) (x : X) (before between after : Barred) → Adds (Each P xs) before between → Adds (P x) between after → Adds (Each P (xs ++ x ∷ [])) before after
  adds_more xs x before between after so_far more =
      adds_as (λ member. Each P xs member ⊎ P x member) (Each P (xs ++ x ∷ [])) (one_more xs x) before after (adds_both (Each P xs) (P x) before between after so_far more)

  -- by the next item of a list
  pub adds_next : (xs : List X) (i : ℕ) (x : X) (before between after : Barred) → At xs i x → Adds (Each P (take i xs)) before between → Adds (P x) between after
      → Adds (Each P (take (i + 1) xs)) before after
  adds_next xs i x before between after here so_far more =
      subst (λ some. Adds (Each P some) before after) (sym (take_item xs i x here)) (adds_more (take i xs) x before between after so_far more)

-- one label comes
pub adds_one : (one : Member) (before after : Barred) → after.groups ≡ before.groups → Updates label_cmp before.labels after.labels (label_of before.groups one) true → Adds (λ member. member ≡ one) before after
adds_one one before after same updates = record {
  groups = same;
  labels = λ label.
      (let mine = label_of before.groups one in
      let tells = tells_label mine label in
      let is : contains label_cmp after.labels label ≡ cond (is_eq (label_cmp mine label)) true (contains label_cmp before.labels label) = updates.0 label in (
        λ has. old_or_new (is_eq (label_cmp mine label)) (contains label_cmp before.labels label) (λ eq. (one, refl, tells.0 eq)) (sym is ∙ has),
        λ some. is ∙ by_either (is_eq (label_cmp mine label)) (contains label_cmp before.labels label)
            (elim some [
              | inl old ↦ inl old
              | inr some_one ↦ inr (tells.1 (ap (label_of before.groups) (sym some_one.1) ∙ some_one.2))
            ]),
      ));
}
