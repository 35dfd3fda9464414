-- Labels are told apart by their order and by their equality, and just joined properties and columns have one label.
use Rattle.std.proofs.Common.{◌≡◌, ◌≢◌, ◌⊎◌, ◌↔◌, ◌==◌, inl, inr, ℕ, true, Option, Some, None, IsSome, refl, sym, ap, subst, ◌∙◌}
use Rattle.std.specs.Bool.{Decides}
use Rattle.std.specs.Option.{option_map_or}
use Rattle.std.specs.Ordering.{nat_cmp, is_eq, ordering_then}
use Rattle.std.proofs.lemmas.Bool.Decides.{Decides-and, Decides-eqb}
use Rattle.std.proofs.lemmas.Cmp.{nat_cmp_total, tied_itself}
use Rattle.std.proofs.lemmas.Map.Lookups.{exact_unsigned}
use Rattle.emc_base.proofs.facts.Orderings.{both_numbers, is_equal}
use Rattle.round_trip.specs.Words.{Schema}
use Rattle.round_trip.specs.soundness.mappings.Joined.{Joined, Member, col, prop}
use Rattle.member_groups.specs.declared.joined_groups.groups.Groups.{Groups}
use Rattle.member_groups.specs.joined_groups.Groups.{AreGroups, group_of}
use Rattle.member_groups.proofs.joined_groups.Grouping.{joined_free}
use Rattle.member_groups.specs.joined_groups.Labels.{label_cmp, label_eq, label_of, own_label}
use Rattle.member_groups.specs.declared.joined_groups.labels.Label.{Label}
use Rattle.member_groups.specs.declared.joined_groups.labels.Label.TheVariants.{Column, Group, Prop}

-- the order of numbers tells them apart
same_number : (a b : ℕ) → is_eq (nat_cmp a b) ≡ true → a ≡ b
same_number a b is = exact_unsigned a b (is_equal (nat_cmp a b) is)

-- a label is equal to itself
equal_itself : (label : Label) → is_eq (label_cmp label label) ≡ true
equal_itself (Group n) = ap is_eq (tied_itself nat_cmp_total n)
equal_itself (Prop p) = ap is_eq (tied_itself nat_cmp_total p)
equal_itself (Column t c) = ap (λ order. is_eq (ordering_then order (nat_cmp c c))) (tied_itself nat_cmp_total t) ∙ ap is_eq (tied_itself nat_cmp_total c)

-- the order of labels tells them apart
pub tells_label : (one other : Label) → Decides (is_eq (label_cmp one other)) (one ≡ other)
tells_label one other = (to one other, λ same. subst (λ (label : Label). is_eq (label_cmp one label) ≡ true) same (equal_itself one))
  where
    to : (o p : Label) → is_eq (label_cmp o p) ≡ true → o ≡ p
    to (Group n) (Group m) is = ap Group (same_number n m is)
    to (Prop p) (Prop q) is = ap Prop (same_number p q is)
    to (Column t c) (Column u d) is = let both = both_numbers t c u d is in λ i. Column (both.0 i) (both.1 i)
    to (Group n) (Prop q) is = absurd cc
    to (Group n) (Column u d) is = absurd cc
    to (Prop p) (Group m) is = absurd cc
    to (Prop p) (Column u d) is = absurd cc
    to (Column t c) (Group m) is = absurd cc
    to (Column t c) (Prop q) is = absurd cc

-- and so does their equality
pub equals_label : (one other : Label) → Decides (label_eq one other) (one ≡ other)
equals_label one other = (to one other, λ same. subst (λ (label : Label). label_eq one label ≡ true) same (itself one))
  where
    to : (o p : Label) → label_eq o p ≡ true → o ≡ p
    to (Group n) (Group m) is = ap Group ((Decides-eqb n m).0 is)
    to (Prop p) (Prop q) is = ap Prop ((Decides-eqb p q).0 is)
    to (Column t c) (Column u d) is =
        let both = (Decides-and (t == u) (c == d) (Decides-eqb t u) (Decides-eqb c d)).0 is in
        λ i. Column (both.0 i) (both.1 i)
    to (Group n) (Prop q) is = absurd cc
    to (Group n) (Column u d) is = absurd cc
    to (Prop p) (Group m) is = absurd cc
    to (Prop p) (Column u d) is = absurd cc
    to (Column t c) (Group m) is = absurd cc
    to (Column t c) (Prop q) is = absurd cc

    itself : (label : Label) → label_eq label label ≡ true
    itself (Group n) = (Decides-eqb n n).1 refl
    itself (Prop p) = (Decides-eqb p p).1 refl
    itself (Column t c) = (Decides-and (t == t) (c == c) (Decides-eqb t t) (Decides-eqb c c)).1 (refl, refl)

-- who have the same numbers are one
same_own : (one other : Member) → own_label one ≡ own_label other → one ≡ other
same_own (prop p) (prop q) same = let index : p.index ≡ q.index = cc in λ i. prop (record { index = index i })
same_own (col t c) (col u d) same =
    let table : t.index ≡ u.index = cc in
    let column : c.index ≡ d.index = cc in
    λ i. col (record { index = table i }) (record { index = column i })
same_own (prop p) (col u d) same = absurd cc
same_own (col t c) (prop q) same = absurd cc

-- no group has their numbers
no_group : (n : ℕ) (member : Member) → Group n ≢ own_label member
no_group n (prop p) same = absurd cc
no_group n (col t c) same = absurd cc

module _ (schema : Schema) (groups : Groups) (are_groups : AreGroups schema groups) where
  -- just joined properties and columns have one label
  pub one_label : (source member : Member) → (label_of groups source ≡ label_of groups member) ↔ ((source ≡ member) ⊎ Joined schema source member)
  one_label source member = (
    λ same. by (group_of groups source) (group_of groups member) refl refl same,
    λ either. elim either [
      | inl same ↦ ap (label_of groups) same
      | inr are_joined ↦ joined_label are_joined
    ],
  )
    where
      by : (a b : Option ℕ) → group_of groups source ≡ a → group_of groups member ≡ b
          → option_map_or (λ group. Group group) a (own_label source) ≡ option_map_or (λ group. Group group) b (own_label member) → (source ≡ member) ⊎ Joined schema source member
      by (Some n) (Some m) first second same =
          let number : n ≡ m = cc in
          let free_source = are_groups.only source (let some : IsSome (group_of groups source) = cc in some) in
          let free_member = are_groups.only member (let some : IsSome (group_of groups member) = cc in some) in
          inr ((are_groups.each source member free_source free_member).0 (first ∙ ap Some number ∙ sym second))
      by None None first second same = inl (same_own source member same)
      by (Some n) None first second same = absurd (no_group n member same)
      by None (Some m) first second same = absurd (no_group m source (sym same))

      grouped : (a b : Option ℕ) → IsSome a → a ≡ b → option_map_or (λ group. Group group) a (own_label source) ≡ option_map_or (λ group. Group group) b (own_label member)
      grouped (Some n) (Some m) some same = let number : n ≡ m = cc in ap Group number
      grouped (Some n) None some same = absurd cc
      grouped None b none same = absurd cc

      joined_label : Joined schema source member → label_of groups source ≡ label_of groups member
      joined_label are_joined =
          let frees = joined_free schema source member are_joined in
          grouped (group_of groups source) (group_of groups member) (are_groups.some source frees.0) ((are_groups.each source member frees.0 frees.1).1 are_joined)
