-- Which conflicts tell of the links of an association, by where these stand.
use Rattle.std.proofs.Common.{◌≡◌, ◌⊎◌, ⊎_elim, inl, inr, Bool, true, false, None, Option, Some, IsTrue, refl, sym, ap, subst, ◌∙◌}
use Rattle.emc_base.specs.declared.ids.LinkFragId.{LinkFragId}
use Rattle.edm_types.specs.declared.model.Mult.TheVariants.{One, ZeroOrOne, Many}
use Rattle.round_trip.specs.Words.{Assoc, AssocId, At, Mult, TableId}
use Rattle.round_trip.specs.declared.FailKind.{FailKind}
use Rattle.round_trip.specs.declared.FailKind.TheVariants as kind
use Rattle.table_owners.specs.declared.places.LinkPlace.{LinkPlace}
use Rattle.table_owners.specs.declared.places.LinkPlace.TheVariants as place
use Rattle.cells.specs.Parts.{AreParts, schema_in}
use Rattle.cells.specs.declared.parts.Parts.{Parts}
use Rattle.regions.specs.Basis.{Basis, partner_end}
use Rattle.regions.specs.declared.pattern.Focus.{Focus}
use Rattle.regions.specs.declared.pattern.Focus.TheVariants as focus
use Rattle.region_states.specs.region_basis.BasisOf.{basis_of}
use Rattle.region_states.specs.conflicts.Conflicts.{IsLinkConflictAt, IsLinkOf, IsTableOf, TellsOfLinks, is_fact, kind_of}
use Rattle.region_states.specs.conflicts.Facts.{is_many, is_many_links, is_unmapped}
use Rattle.region_states.specs.declared.conflicts.conflict.Conflict.{Conflict}
use Rattle.region_states.specs.declared.conflicts.conflict.Conflict.TheVariants as conflict
use Rattle.containment.specs.Found.{FindsOne, IsOneOf, focus_of}
use Rattle.containment.specs.Places.{many_found, unmapped_found}
use Rattle.containment.proofs.links.Places.{joined_only, joined_table, many_only, many_told, unmapped_only, unmapped_told}

-- what is found of an association with such partners
pub many_is : (asked : FailKind) (a : AssocId) (mult : Mult) (one : Conflict) → many_found asked a mult ≡ Some one → (asked ≡ kind.Clash) × (mult ≡ Many) × (one ≡ conflict.ManyLinks a)
many_is kind.Clash a Many one is = (refl, refl, (cc))
many_is kind.Clash a One one is = absurd (let never = is in cc)
many_is kind.Clash a ZeroOrOne one is = absurd (let never = is in cc)
many_is kind.Null a mult one is = absurd (let never = is in cc)
many_is kind.Disagrees a mult one is = absurd (let never = is in cc)
many_is kind.Dangling a mult one is = absurd (let never = is in cc)
many_is kind.Same a mult one is = absurd (let never = is in cc)

many_some : (mult : Mult) (a : AssocId) → is_many mult ≡ true → many_found kind.Clash a mult ≡ Some (conflict.ManyLinks a)
many_some Many a is = refl
many_some One a is = absurd (let never = is in cc)
many_some ZeroOrOne a is = absurd (let never = is in cc)

-- what is found of one that nothing maps
pub unmapped_is : (asked : FailKind) (a : AssocId) (one : Conflict) → unmapped_found asked a ≡ Some one → (asked ≡ kind.Same) × (one ≡ conflict.Unmapped a)
unmapped_is kind.Same a one is = (refl, (cc))
unmapped_is kind.Clash a one is = absurd (let never = is in cc)
unmapped_is kind.Null a one is = absurd (let never = is in cc)
unmapped_is kind.Disagrees a one is = absurd (let never = is in cc)
unmapped_is kind.Dangling a one is = absurd (let never = is in cc)

module _ (parts : Parts) (are : AreParts parts) (a : AssocId) (assoc : Assoc) (here : At (schema_in parts).model.assocs a.index assoc)
    (told : LinkPlace) (at : At parts.cells.now.places a.index told) where
  abbrev basis : Basis
  basis = basis_of parts

  -- what is told of the association, where a conflict tells of its links
  abbrev IsOfPlace : Conflict → Type 0
  IsOfPlace made = ((number : LinkFragId) × (told ≡ place.Joined number))
      ⊎ ((made ≡ conflict.ManyLinks a) × ((first_hosts : Bool) × (number : LinkFragId) × (told ≡ place.Hosted first_hosts number) × (is_many (partner_end first_hosts assoc).mult ≡ true)))
      ⊎ ((made ≡ conflict.Unmapped a) × (told ≡ place.Unmapped))

  joined_focus : (of : Focus) → IsLinkOf basis a of → (number : LinkFragId) × (told ≡ place.Joined number)
  joined_focus (focus.Entity region) none = absurd none
  joined_focus (focus.Link b) (is, t, of_table) = joined_only parts are a assoc here told at t of_table

  of_place : (made : Conflict) → TellsOfLinks basis a made → IsTrue (is_fact basis made) → IsOfPlace made
  of_place (conflict.Clash of t col one two) tells fact = inl (joined_focus of tells)
  of_place (conflict.NullIn of t col one) tells fact = inl (joined_focus of tells)
  of_place (conflict.Disagree of name) tells fact = inl (joined_focus of tells)
  of_place (conflict.ManyLinks b) tells fact = inr (inl (
    ap (λ c. conflict.ManyLinks c) tells,
    many_only parts are a assoc here told at (subst (λ c. is_many_links basis c ≡ true) tells fact),
  ))
  of_place (conflict.Unmapped b) tells fact = inr (inr (
    ap (λ c. conflict.Unmapped c) tells,
    unmapped_only parts are a assoc here told at (subst (λ c. is_unmapped basis c ≡ true) tells fact),
  ))
  of_place (conflict.Absent region) tells fact = absurd tells
  of_place (conflict.Rival one two) tells fact = absurd tells
  of_place (conflict.Lost region p) tells fact = absurd tells

  module _ (asked : FailKind) where
    -- a joined association: what is found at its link, and that there is no other
    module _ (number : LinkFragId) (is_told : told ≡ place.Joined number) where
      link : (of : Focus) → Some of ≡ Some (focus.Link a) → IsLinkOf basis a of
      link of is = let same : of ≡ focus.Link a = cc in
          let own = joined_table parts are a assoc here told at number is_told in
          subst (IsLinkOf basis a) (sym same) (refl, own.0, own.1)

      tells_links : (made : Conflict) → focus_of made ≡ Some (focus.Link a) → TellsOfLinks basis a made
      tells_links (conflict.Clash of t col one two) is = link of is
      tells_links (conflict.NullIn of t col one) is = link of is
      tells_links (conflict.Disagree of name) is = link of is
      tells_links (conflict.ManyLinks b) is = absurd (let never = is in cc)
      tells_links (conflict.Unmapped b) is = absurd (let never = is in cc)
      tells_links (conflict.Absent region) is = absurd (let never = is in cc)
      tells_links (conflict.Rival one two) is = absurd (let never = is in cc)
      tells_links (conflict.Lost region p) is = absurd (let never = is in cc)

      pub joined_found : (found : Option Conflict) → FindsOne basis (focus.Link a) asked found → (made : Conflict) → found ≡ Some made → IsLinkConflictAt basis a asked made
      joined_found None finds made is = absurd (let never = is in cc)
      joined_found (Some one) finds made is =
          let same : one ≡ made = cc in
          subst (IsLinkConflictAt basis a asked) same (record { of_kind = finds.of_kind; of_links = tells_links one finds.of_focus; holds = finds.holds })

      pub joined_none : (found : Option Conflict) → FindsOne basis (focus.Link a) asked found → found ≡ None → (made : Conflict) → ¬ IsLinkConflictAt basis a asked made
      joined_none (Some one) finds is made one_is = let never = is in cc
      joined_none None finds is made one_is = by made one_is.of_links one_is.holds (λ of_focus. finds made (record { of_kind = one_is.of_kind; of_focus = of_focus; holds = one_is.holds }))
        where
          by_focus : (of : Focus) → IsLinkOf basis a of → (Some of ≡ Some (focus.Link a) → ⊥) → ⊥
          by_focus (focus.Entity region) none not = none
          by_focus (focus.Link b) (same, t, of_table) not = not (ap (λ c. Some (focus.Link c)) same)

          by : (one : Conflict) → TellsOfLinks basis a one → IsTrue (is_fact basis one) → (focus_of one ≡ Some (focus.Link a) → ⊥) → ⊥
          by (conflict.Clash of t col one two) tells fact not = by_focus of tells not
          by (conflict.NullIn of t col one) tells fact not = by_focus of tells not
          by (conflict.Disagree of name) tells fact not = by_focus of tells not
          by (conflict.ManyLinks b) tells fact not =
              let by_place = many_only parts are a assoc here told at (subst (λ c. is_many_links basis c ≡ true) tells fact) in
              let never : place.Joined number ≡ place.Hosted by_place.0 by_place.1 = sym is_told ∙ by_place.2 in cc
          by (conflict.Unmapped b) tells fact not =
              let never : place.Joined number ≡ place.Unmapped = sym is_told ∙ unmapped_only parts are a assoc here told at (subst (λ c. is_unmapped basis c ≡ true) tells fact) in cc
          by (conflict.Absent region) tells fact not = tells
          by (conflict.Rival one two) tells fact not = tells
          by (conflict.Lost region p) tells fact not = tells

    -- a hosted one
    module _ (first_hosts : Bool) (number : LinkFragId) (is_told : told ≡ place.Hosted first_hosts number) where
      pub hosted_found : (made : Conflict) → many_found asked a (partner_end first_hosts assoc).mult ≡ Some made → IsLinkConflictAt basis a asked made
      hosted_found made is =
          let found = many_is asked a (partner_end first_hosts assoc).mult made is in
          subst (IsLinkConflictAt basis a asked) (sym found.2) (record {
            of_kind = sym found.0;
            of_links = refl;
            holds = many_told parts are a assoc here told at first_hosts number is_told (ap is_many found.1);
          })

      pub hosted_none : many_found asked a (partner_end first_hosts assoc).mult ≡ None → (made : Conflict) → ¬ IsLinkConflictAt basis a asked made
      hosted_none none made is = by (of_place made is.of_links is.holds)
        where
          by : IsOfPlace made → ⊥
          by (inl (other, joined)) = let never : place.Hosted first_hosts number ≡ place.Joined other = sym is_told ∙ joined in cc
          by (inr (inl (is_many_made, (first, other, hosted, many)))) =
              let clash : kind.Clash ≡ asked = ap kind_of (sym is_many_made) ∙ is.of_kind in
              let both : place.Hosted first_hosts number ≡ place.Hosted first other = sym is_told ∙ hosted in
              let side : first_hosts ≡ first = hosts_at both in
              let P : FailKind → Bool → Type 0 = λ k b. many_found k a (partner_end b assoc).mult ≡ None in
              let no : many_found kind.Clash a (partner_end first assoc).mult ≡ None = subst (λ b. P kind.Clash b) side (subst (λ k. P k first_hosts) (sym clash) none) in
              let never : Some (conflict.ManyLinks a) ≡ None = sym (many_some (partner_end first assoc).mult a many) ∙ no in cc
            where
              side_of : LinkPlace → Bool
              side_of (place.Hosted first number) = first
              side_of _ = false

              hosts_at : {x y : Bool} {n m : LinkFragId} → place.Hosted x n ≡ place.Hosted y m → x ≡ y
              hosts_at same_place = ap side_of same_place
          by (inr (inr (is_unmapped_made, unmapped))) = let never : place.Hosted first_hosts number ≡ place.Unmapped = sym is_told ∙ unmapped in cc

    -- one that nothing maps
    module _ (is_told : told ≡ place.Unmapped) where
      pub unmapped_one : (made : Conflict) → unmapped_found asked a ≡ Some made → IsLinkConflictAt basis a asked made
      unmapped_one made is =
          let found = unmapped_is asked a made is in
          subst (IsLinkConflictAt basis a asked) (sym found.1) (record { of_kind = sym found.0; of_links = refl; holds = unmapped_told parts are a assoc here told at is_told })

      pub unmapped_none : unmapped_found asked a ≡ None → (made : Conflict) → ¬ IsLinkConflictAt basis a asked made
      unmapped_none none made is = by (of_place made is.of_links is.holds)
        where
          by : IsOfPlace made → ⊥
          by (inl (other, joined)) = let never : place.Unmapped ≡ place.Joined other = sym is_told ∙ joined in cc
          by (inr (inl (is_many_made, (first, other, hosted, many)))) = let never : place.Unmapped ≡ place.Hosted first other = sym is_told ∙ hosted in cc
          by (inr (inr (is_unmapped_made, unmapped))) =
              let of_same : kind.Same ≡ asked = ap kind_of (sym is_unmapped_made) ∙ is.of_kind in
              let no : unmapped_found kind.Same a ≡ None = subst (λ k. unmapped_found k a ≡ None) (sym of_same) none in
              let never : Some (conflict.Unmapped a) ≡ None = no in cc

    -- one with a constraint has none
    pub constrained_none : told ≡ place.Constraint → (made : Conflict) → ¬ IsLinkConflictAt basis a asked made
    constrained_none is_told made is = by (of_place made is.of_links is.holds)
      where
        by : IsOfPlace made → ⊥
        by (inl (other, joined)) = let never : place.Constraint ≡ place.Joined other = sym is_told ∙ joined in cc
        by (inr (inl (is_many_made, (first, other, hosted, many)))) = let never : place.Constraint ≡ place.Hosted first other = sym is_told ∙ hosted in cc
        by (inr (inr (is_unmapped_made, unmapped))) = let never : place.Constraint ≡ place.Unmapped = sym is_told ∙ unmapped in cc
