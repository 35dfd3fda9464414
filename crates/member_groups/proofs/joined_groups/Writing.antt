-- The links of pairs, one pair after another and one fragment after another, and what the link of a pair tells.
use Rattle.std.proofs.Common.{◌≡◌, ◌⊎◌, inl, inr, ℕ, List, [], ◌∷◌, ◌++◌, Option, Some, None, Contains, sym, ap, subst, ◌∙◌}
use Rattle.std.specs.Prelude.{option_and_then, option_map}
use Rattle.std.proofs.lemmas.List.Elements.{Contains-append_left, Contains-push, Contains-push_cases}
use Rattle.std.proofs.lemmas.Option.{same_Some}
use Rattle.emc_base.proofs.Members.{contains_nil}
use Rattle.round_trip.specs.Words.{Fragment, Pair, TableId}
use Rattle.round_trip.specs.soundness.mappings.Joined.{col, prop}
use Rattle.groupings.specs.declared.linked_places.classes.Link.{Link}
use Rattle.member_groups.specs.declared.joined_groups.places.Places.{Places}
use Rattle.member_groups.specs.joined_groups.Places.{place_of}
use Rattle.member_groups.specs.joined_groups.Writes.{AreLinks, AreMore, LinksBy, link_by}

module _ (places : Places) (table : TableId) where
  -- without a pair
  pub no_more : (links : List Link) → AreMore places table [] links links
  no_more links = λ link. (
    λ has. inl has,
    λ some. elim some [
      | inl old ↦ old
      | inr by ↦ absurd (contains_nil by.0 by.1)
    ],
  )

  module _ (pairs : List Pair) (pair : Pair) (before after : List Link) (so_far : AreMore places table pairs before after) where
    -- what came by the pairs so far still does
    kept : (link : Link) → (Contains before link ⊎ LinksBy places table pairs link) → Contains before link ⊎ LinksBy places table (pairs ++ pair ∷ []) link
    kept link some = elim some [
      | inl old ↦ inl old
      | inr by ↦ inr (by.0, Contains-append_left pairs (pair ∷ []) by.0 by.1, by.2)
    ]

    -- with a pair that gives a link
    pub more_linked : (new : Link) → link_by places table pair ≡ Some new → AreMore places table (pairs ++ pair ∷ []) before (after ++ new ∷ [])
    more_linked new is = λ link. (
      λ has. elim (Contains-push_cases after new link has) [
        | inl old ↦ kept link ((so_far link).0 old)
        | inr last ↦ inr (pair, Contains-push pairs pair, is ∙ ap Some last)
      ],
      λ some. elim some [
        | inl old ↦ Contains-append_left after (new ∷ []) link ((so_far link).1 (inl old))
        | inr by ↦ elim (Contains-push_cases pairs pair by.0 by.1) [
          | inl earlier ↦ Contains-append_left after (new ∷ []) link ((so_far link).1 (inr (by.0, earlier, by.2)))
          | inr last ↦
              let same : new ≡ link = same_Some new link (sym is ∙ ap (link_by places table) last ∙ by.2) in
              let P : Link → Type 0 = λ l. Contains (after ++ new ∷ []) l in
              subst P same (Contains-push after new)
        ]
      ],
    )

    -- with a pair that gives none
    pub more_unlinked : link_by places table pair ≡ None → AreMore places table (pairs ++ pair ∷ []) before after
    more_unlinked is = λ link. (
      λ has. kept link ((so_far link).0 has),
      λ some. elim some [
        | inl old ↦ (so_far link).1 (inl old)
        | inr by ↦ elim (Contains-push_cases pairs pair by.0 by.1) [
          | inl earlier ↦ (so_far link).1 (inr (by.0, earlier, by.2))
          | inr last ↦ absurd (let none : None ≡ Some link = sym is ∙ ap (link_by places table) last ∙ by.2 in cc)
        ]
      ],
    )

module _ (places : Places) where
  -- without a fragment
  pub no_links : AreLinks places [] []
  no_links = λ link. (λ has. absurd (contains_nil link has), λ some. absurd (contains_nil some.0 some.1))

  -- with one fragment more
  pub more_links : (fragments : List Fragment) (fragment : Fragment) (links after : List Link) → AreLinks places fragments links
      → AreMore places fragment.table fragment.pairs links after → AreLinks places (fragments ++ fragment ∷ []) after
  more_links fragments fragment links after so_far more = λ link. (
    λ has. elim ((more link).0 has) [
      | inl old ↦
          let by = (so_far link).0 old in
          (by.0, Contains-append_left fragments (fragment ∷ []) by.0 by.1, by.2)
      | inr by ↦ (fragment, Contains-push fragments fragment, by)
    ],
    λ some. elim (Contains-push_cases fragments fragment some.0 some.1) [
      | inl earlier ↦ (more link).1 (inl ((so_far link).1 (some.0, earlier, some.2)))
      | inr last ↦
          let P : Fragment → Type 0 = λ f. LinksBy places f.table f.pairs link in
          (more link).1 (inr (subst P (sym last) some.2))
    ],
  )

  -- the places of a link's property and column
  pub link_parts : (table : TableId) (pair : Pair) (link : Link) → link_by places table pair ≡ Some link
      → (place_of places (prop pair.prop) ≡ Some link.one) × (place_of places (col table pair.col) ≡ Some link.other)
  link_parts table pair link is = by (place_of places (prop pair.prop)) (place_of places (col table pair.col)) is
    where
      by : (one other : Option ℕ) → option_and_then (λ (n : ℕ). option_map (λ (m : ℕ). record { one = n; other = m }) other) one ≡ Some link
          → (one ≡ Some link.one) × (other ≡ Some link.other)
      by None other none = absurd cc
      by (Some n) None none = absurd cc
      by (Some n) (Some m) some =
          let same : record { one = n; other = m } ≡ link = same_Some (record { one = n; other = m }) link some in
          (ap (λ (l : Link). Some l.one) same, ap (λ (l : Link). Some l.other) same)

  -- and back
  pub link_from : (table : TableId) (pair : Pair) (one other : ℕ) → place_of places (prop pair.prop) ≡ Some one → place_of places (col table pair.col) ≡ Some other
      → link_by places table pair ≡ Some (record { one = one; other = other })
  link_from table pair one other first second =
      ap (λ (o : Option ℕ). option_and_then (λ (n : ℕ). option_map (λ (m : ℕ). record { one = n; other = m }) (place_of places (col table pair.col))) o) first
      ∙ ap (λ (o : Option ℕ). option_map (λ (m : ℕ). record { one = one; other = m }) o) second
