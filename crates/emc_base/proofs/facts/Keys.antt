-- Keys, as their order compares them.
use Rattle.std.proofs.Common.{◌≡◌, ◌≢◌, ◌↔◌, List, IsTrue, sym, ap, ◌∙◌}
use Rattle.std.specs.Cmp.{Equal-is, tied_itself}
use Rattle.std.specs.Cmp.Lexicographic.{slice_cmp}
use Rattle.std.specs.Ordering.{eq_by_cmp, is_eq}
use Rattle.std.specs.declared.cmp.Ordering.TheVariants.{Less, Equal}
use Rattle.emc_base.specs.Order.{value_cmp}
use Rattle.emc_base.specs.OrderLaws.{key_cmp_apart, key_cmp_total}
use Rattle.emc_base.specs.declared.value.Value.{Value}

-- keys that their order ties are equal, and the other way
pub tied_keys : (one other : List Value) → IsTrue (eq_by_cmp (slice_cmp value_cmp) one other) ↔ (one ≡ other)
tied_keys one other = (
  λ tied. key_cmp_apart one other ((Equal-is (slice_cmp value_cmp one other)).0 tied),
  λ same. ap is_eq (ap (slice_cmp value_cmp one) (sym same) ∙ tied_itself key_cmp_total one),
)

-- no key comes before itself
pub never_before : (key : List Value) → slice_cmp value_cmp key key ≢ Less
never_before key less = let tied : is_eq Less ≡ is_eq (slice_cmp value_cmp key key) = ap is_eq (sym less) in differ (tied ∙ ap is_eq (tied_itself key_cmp_total key))
  where
    differ : is_eq Less ≡ is_eq Equal → ⊥
    differ same = cc
