-- What one property gives: the number of its group with itself, and its mark.
use Rattle.std.proofs.Common.{◌≡◌, ℕ, List, Option, Some, None, sym, ap, ◌∙◌}
use Rattle.std.proofs.lemmas.Option.{same_Some}
use Rattle.emc_base.proofs.Lists.{at_once}
use Rattle.round_trip.specs.Words.{GroupId, Prop, At}
use Rattle.member_groups.specs.declared.mapping_asks.member.MemberId.{MemberId}
use Rattle.member_groups.specs.mapping_asks.Adding.{Tells}
use Rattle.member_groups.proofs.group_numbers.Joint.{one_joint}

-- a property or a column stands with just the number of its group
pub one_stands : (found : Option GroupId) (member : MemberId) (group : GroupId) → found ≡ Some group
    → Tells (λ (entry : ℕ × MemberId). entry ≡ (group.index, member)) (λ entry. (found ≡ Some (record { index = entry.0 })) × (entry.1 ≡ member))
one_stands found member group is entry = (
  λ same. ((one_joint found group is entry.0).0 (ap (λ (e : ℕ × MemberId). e.0) same), ap (λ (e : ℕ × MemberId). e.1) same),
  λ both. (let number = (one_joint found group is entry.0).1 both.0 in let other = both.1 in λ i. (number i, other i)),
)

-- what the property at a place tells
module _ {Y : Type 0} (props : List Prop) (n : ℕ) (declared : Prop) (here : At props n declared) (mark : Prop → Option Y) where
  abbrev Marks : Y → Type 0
  Marks y = (one : Prop) × At props n one × (mark one ≡ Some y)

  pub one_mark : (y : Y) → mark declared ≡ Some y → Tells (λ other. other ≡ y) Marks
  one_mark y is other = (
    λ same. (declared, here, is ∙ ap Some (sym same)),
    λ some. sym (same_Some y other (sym is ∙ ap mark (at_once props n declared some.0 here some.1) ∙ some.2)),
  )

  pub no_mark : mark declared ≡ None → (y : Y) → ¬ Marks y
  no_mark none y some =
      absurd (let never : None ≡ Some y = sym none ∙ ap mark (at_once props n declared some.0 here some.1) ∙ some.2 in cc)
