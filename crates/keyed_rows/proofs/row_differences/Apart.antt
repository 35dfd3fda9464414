-- Values and rows that differ, or hold the same.
use Rattle.std.proofs.Common.{◌≡◌, ◌≢◌, ◌↔◌, ◌⊎◌, inl, inr, List, true, false, true≢false, IsTrue, refl, sym, ap, ◌∙◌}
use Rattle.std.specs.Cmp.{tied_itself}
use Rattle.std.specs.Cmp.Lexicographic.{slice_cmp}
use Rattle.std.specs.Ordering.{is_ne}
use Rattle.std.specs.declared.cmp.Ordering.{Ordering}
use Rattle.std.specs.declared.cmp.Ordering.TheVariants.{Less, Equal, Greater}
use Rattle.emc_base.specs.Order.{value_cmp}
use Rattle.emc_base.specs.OrderLaws.{key_cmp_apart, key_cmp_total, value_cmp_apart, value_cmp_total}
use Rattle.round_trip.specs.Words.{Value}

-- values that their order tells apart are two, and only these
pub two_values : (x y : Value) → IsTrue (is_ne (value_cmp x y)) ↔ (x ≢ y)
two_values x y = (forth, back (value_cmp x y) refl)
  where
    forth : is_ne (value_cmp x y) ≡ true → x ≢ y
    forth told same = true≢false (sym told ∙ ap is_ne (ap (value_cmp x) (sym same) ∙ tied_itself value_cmp_total x))

    back : (order : Ordering) → value_cmp x y ≡ order → x ≢ y → is_ne order ≡ true
    back Less is differ = refl
    back Greater is differ = refl
    back Equal is differ = absurd (differ (value_cmp_apart x y is))

-- two values are one, or they aren't
pub one_or_two : (x y : Value) → (x ≡ y) ⊎ (x ≢ y)
one_or_two x y = by (value_cmp x y) refl
  where
    by : (order : Ordering) → value_cmp x y ≡ order → (x ≡ y) ⊎ (x ≢ y)
    by Equal is = inl (value_cmp_apart x y is)
    by Less is = inr ((two_values x y).0 (ap is_ne is))
    by Greater is = inr ((two_values x y).0 (ap is_ne is))

-- and so are two keys
pub one_key_or_two : (x y : List Value) → (x ≡ y) ⊎ (x ≢ y)
one_key_or_two x y = by (slice_cmp value_cmp x y) refl
  where
    differ : (order : Ordering) → is_ne order ≡ true → slice_cmp value_cmp x y ≡ order → x ≢ y
    differ order uneven is same =
        true≢false (sym uneven ∙ ap is_ne (sym is ∙ ap (slice_cmp value_cmp x) (sym same) ∙ tied_itself key_cmp_total x))

    by : (order : Ordering) → slice_cmp value_cmp x y ≡ order → (x ≡ y) ⊎ (x ≢ y)
    by Equal is = inl (key_cmp_apart x y is)
    by Less is = inr (differ Less refl is)
    by Greater is = inr (differ Greater refl is)

-- values that their order doesn't tell apart are one
pub one_value : (x y : Value) → is_ne (value_cmp x y) ≡ false → x ≡ y
one_value x y even = by (one_or_two x y)
  where
    by : (x ≡ y) ⊎ (x ≢ y) → x ≡ y
    by (inl same) = same
    by (inr differ) = absurd (true≢false (sym ((two_values x y).1 differ) ∙ even))
