-- Each end of an association is mapped by one of two written ends.
use Rattle.std.proofs.Common.{◌≡◌, ◌≢◌, ◌⊎◌, inl, inr, ℕ, Bool, true, false, List, [], ◌∷◌, length, map, find, AllPairs, Contains, Option, Some, None, option_map, if◌then◌else◌, refl, sym, ap, subst, ◌∙◌, arith}
use Rattle.std.specs.Str.{bytes_eq}
use Rattle.std.proofs.lemmas.Bool.{false_from_ne_true}
use Rattle.std.proofs.lemmas.Slice.Eq.{bytes_eq-Decides}
use Rattle.emc_base.specs.Lists.{At}
use Rattle.emc_base.proofs.Members.{contains_head, contains_tail}
use Rattle.round_trip.specs.Words.{Assoc, End}
use Rattle.schema_names.specs.declared.ends.WhichEnd.TheVariants.{First, Second}
use Rattle.groupings.proofs.name_places.Finds.{found_named, named_found}
use Rattle.msl_rules.specs.declared.msl_lists.raw.RawEndMapping.{RawEndMapping}
use Rattle.msl_rules.specs.Found.{end_at, role_end}

-- the end is mapped at this place: the mapping there has its role, and is the first that has
pub record IsMappedEnd (assoc : Assoc) (ends : List RawEndMapping) (end : End) : Type 0 where
  pub place : ℕ
  pub mapping : RawEndMapping
  pub here : At ends place mapping
  pub is_role : mapping.role ≡ end.role
  pub is_end : role_end assoc mapping.role ≡ Some end
  pub is_found : find (λ mapping. bytes_eq end.role mapping.role) ends ≡ Some mapping

module _ (assoc : Assoc) where
  -- the end of a role, by tests
  abbrev end_by : Bool → Bool → Option End
  end_by first second = option_map (end_at assoc) (if first then Some First else (if second then Some Second else None))

  -- a role that is found is that of one of the ends
  role_cases : (role : List ℕ) → role_end assoc role ≢ None → (role ≡ assoc.first.role) ⊎ (role ≡ assoc.second.role)
  role_cases role found = by (bytes_eq role assoc.first.role) (bytes_eq role assoc.second.role) refl refl found
    where
      by : (first second : Bool) → bytes_eq role assoc.first.role ≡ first → bytes_eq role assoc.second.role ≡ second → end_by first second ≢ None
          → (role ≡ assoc.first.role) ⊎ (role ≡ assoc.second.role)
      by true second is other some = inl ((bytes_eq-Decides role assoc.first.role).0 is)
      by false true is other some = inr ((bytes_eq-Decides role assoc.second.role).0 other)
      by false false is other some = absurd (some refl)

  -- the end of a role that is the first one's, or the second one's
  first_end : (role : List ℕ) → role ≡ assoc.first.role → role_end assoc role ≡ Some assoc.first
  first_end role same = ap (λ first. end_by first (bytes_eq role assoc.second.role)) ((bytes_eq-Decides role assoc.first.role).1 same)

  second_end : assoc.first.role ≢ assoc.second.role → (role : List ℕ) → role ≡ assoc.second.role → role_end assoc role ≡ Some assoc.second
  second_end differ role same =
      let other : bytes_eq role assoc.first.role ≡ false = false_from_ne_true (bytes_eq role assoc.first.role)
      (λ first. differ (sym ((bytes_eq-Decides role assoc.first.role).0 first) ∙ same)) in
      ap (λ first. end_by first (bytes_eq role assoc.second.role)) other ∙ ap (end_by false) ((bytes_eq-Decides role assoc.second.role).1 same)

  -- two ends of different roles, each one of the association's, name both
  both_named : (ends : List RawEndMapping) → length ends ≡ 2 → AllPairs (λ one other. one.role ≢ other.role) ends
      → ((e : ℕ) (end : RawEndMapping) → At ends e end → role_end assoc end.role ≢ None)
      → Contains (map (λ end. end.role) ends) assoc.first.role × Contains (map (λ end. end.role) ends) assoc.second.role
  both_named [] two apart found = absurd (omega arith)
  both_named (x ∷ []) two apart found = absurd (omega arith)
  both_named (x ∷ y ∷ z ∷ rest) two apart found = absurd (omega arith)
  both_named (x ∷ y ∷ []) two apart found = by (role_cases x.role (found 0 x refl)) (role_cases y.role (found 1 y refl))
    where
      differ : x.role ≢ y.role
      differ = apart 0 1 x (omega arith) (omega arith)

      one : (role : List ℕ) → x.role ≡ role → Contains (x.role ∷ y.role ∷ []) role
      one role same = subst (Contains (x.role ∷ y.role ∷ [])) same (contains_head x.role (y.role ∷ []))

      other : (role : List ℕ) → y.role ≡ role → Contains (x.role ∷ y.role ∷ []) role
      other role same = subst (Contains (x.role ∷ y.role ∷ [])) same (contains_tail x.role (y.role ∷ []) y.role (contains_head y.role []))

      by : (x.role ≡ assoc.first.role) ⊎ (x.role ≡ assoc.second.role) → (y.role ≡ assoc.first.role) ⊎ (y.role ≡ assoc.second.role)
          → Contains (x.role ∷ y.role ∷ []) assoc.first.role × Contains (x.role ∷ y.role ∷ []) assoc.second.role
      by (inl first) (inr second) = (one assoc.first.role first, other assoc.second.role second)
      by (inr second) (inl first) = (other assoc.first.role first, one assoc.second.role second)
      by (inl first) (inl same) = absurd (differ (first ∙ sym same))
      by (inr second) (inr same) = absurd (differ (second ∙ sym same))

  -- an end whose role is named is mapped
  mapped : (ends : List RawEndMapping) (end : End) → ((role : List ℕ) → role ≡ end.role → role_end assoc role ≡ Some end)
      → Contains (map (λ end. end.role) ends) end.role → IsMappedEnd assoc ends end
  mapped ends end is_end has =
      let found = named_found (λ mapping. mapping.role) end.role ends has in
      let place = found_named (λ mapping. mapping.role) end.role ends found.0 found.1 in
      record { place = place.0; mapping = found.0; here = place.1; is_role = place.2; is_end = is_end found.0.role place.2; is_found = found.1 }

  module _ (differ : assoc.first.role ≢ assoc.second.role) (ends : List RawEndMapping) (two : length ends ≡ 2) (apart : AllPairs (λ one other. one.role ≢ other.role) ends)
      (found : (e : ℕ) (end : RawEndMapping) → At ends e end → role_end assoc end.role ≢ None) where
    -- so both ends are mapped
    pub first_mapped : IsMappedEnd assoc ends assoc.first
    first_mapped = mapped ends assoc.first first_end (both_named ends two apart found).0

    pub second_mapped : IsMappedEnd assoc ends assoc.second
    second_mapped = mapped ends assoc.second (second_end differ) (both_named ends two apart found).1
