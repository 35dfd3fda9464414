-- Two answers that differ, and two facts of which just one is so.
use Rattle.std.proofs.Common.{◌↔◌, ◌⊎◌, inl, inr, Bool, true, false, true≢false, IsTrue, refl, sym}
use Rattle.schema_laws.specs.sound_demand.Disagreeing.{IsOneOnly}
use Rattle.region_states.specs.conflicts.Facts.{differ}

-- of two answers that differ one is yes
pub one_is_so : (one two : Bool) → IsTrue (differ one two) → IsTrue one ⊎ IsTrue two
one_is_so true two told = inl refl
one_is_so false true told = inr refl
one_is_so false false told = absurd (true≢false (sym told))

-- and they aren't alike
differ_unlike : (one two : Bool) → IsTrue (differ one two) → ¬ (IsTrue one ↔ IsTrue two)
differ_unlike true true told alike = true≢false (sym told)
differ_unlike true false told alike = true≢false (sym (alike.0 refl))
differ_unlike false true told alike = true≢false (sym (alike.1 refl))
differ_unlike false false told alike = true≢false (sym told)

-- two that aren't alike differ
unlike_differ : (one two : Bool) → ¬ (IsTrue one ↔ IsTrue two) → IsTrue (differ one two)
unlike_differ true true unlike = absurd (unlike ((λ so. so), λ so. so))
unlike_differ true false unlike = refl
unlike_differ false true unlike = refl
unlike_differ false false unlike = absurd (unlike ((λ so. so), λ so. so))

-- two answers that are alike just where two facts are
module _ (One Other : Type 0) (one two : Bool) (alike : (One ↔ Other) ↔ (IsTrue one ↔ IsTrue two)) where
  -- they differ where just one of the facts is so
  pub differ_by : IsOneOnly One Other → IsTrue (differ one two)
  differ_by (inl (so, not_other)) = unlike_differ one two (λ same. not_other ((alike.1 same).0 so))
  differ_by (inr (so, not_one)) = unlike_differ one two (λ same. not_one ((alike.1 same).1 so))

  -- and where they differ just one of the facts is so
  pub one_only_by : One ⊎ ¬ One → Other ⊎ ¬ Other → IsTrue (differ one two) → IsOneOnly One Other
  one_only_by (inl is_one) (inl is_other) told = absurd (differ_unlike one two told (alike.0 ((λ so. is_other), λ so. is_one)))
  one_only_by (inl is_one) (inr not_other) told = inl (is_one, not_other)
  one_only_by (inr not_one) (inl is_other) told = inr (is_other, not_one)
  one_only_by (inr not_one) (inr not_other) told = absurd (differ_unlike one two told (alike.0 ((λ so. absurd (not_one so)), λ so. absurd (not_other so))))

-- two that are alike may stand for one another
pub alike_through : {A X Y Z : Type 0} → A ↔ (X ↔ Y) → Z ↔ Y → A ↔ (X ↔ Z)
alike_through told same = (
  (λ a. let alike = told.0 a in ((λ x. same.1 (alike.0 x)), λ z. alike.1 (same.0 z))),
  (λ alike. told.1 ((λ x. same.0 (alike.0 x)), λ y. alike.1 (same.1 y))),
)
