-- The list of a group's constants, and how many different constants there are.
use Rattle.std.proofs.Common.{◌≡◌, inl, inr, ◌≤◌, ◌<◌, ◌+◌, ℕ, List, length, All, Contains, sym, subst, arith}
use Rattle.std.proofs.lemmas.Bool.{cases_eq}
use Rattle.std.specs.Cmp.{eq_by_cmp_equiv}
use Rattle.std.proofs.lemmas.List.Elements.{All-contains}
use Rattle.std.proofs.lemmas.Map.Keys.{IsDistinct-from_sorted}
use Rattle.std.proofs.lemmas.Map.Made.{AllPairs-from_IsDistinct, IsDistinct-from_AllPairs, is_member-Decides, length-le_from_is_member}
use Rattle.emc_base.specs.Lists.{AreApart}
use Rattle.emc_base.specs.Order.{value_cmp}
use Rattle.emc_base.specs.OrderLaws.{value_cmp_total}
use Rattle.emc_base.proofs.Lists.{all_from_members}
use Rattle.round_trip.specs.Words.{PropId, Schema, Value}
use Rattle.round_trip.specs.soundness.mappings.Joined.{Member}
use Rattle.member_groups.specs.Tested.{IsConstant}
use Rattle.member_groups.specs.MemberGroups.{ListsJust}
use Rattle.schema_laws.proofs.state_demand.writings.Selecting.{Decides-value}
use Rattle.cells.specs.Limits.{HasFewConstants, most_constants}

-- different values of a list are no more than it has
pub no_more : (values list : List Value) → AreApart values → All (Contains list) values → length values ≤ length list
no_more values list apart within = length-le_from_is_member (eq_by_cmp_equiv value_cmp_total) values list
    (IsDistinct-from_AllPairs Decides-value values apart)
    (λ value is. (is_member-Decides Decides-value list value).1
    (All-contains (Contains list) values value within ((is_member-Decides Decides-value values value).0 is)))

module _ (schema : Schema) (member : Member) (list : List Value) (lists : ListsJust (IsConstant schema member) list) where
  -- the list has each constant once
  apart : AreApart list
  apart = AllPairs-from_IsDistinct Decides-value list (IsDistinct-from_sorted value_cmp list lists.sorted)

  pub few_by_list : length list ≤ most_constants → HasFewConstants schema member
  few_by_list short values different all =
      let fewer : length values ≤ length list = no_more values list different
      (all_from_members (Contains list) values (λ value has. (lists.each value).1 (All-contains (IsConstant schema member) values value all has))) in
      omega (arith, fewer, short)

  pub list_is_short : HasFewConstants schema member → length list ≤ most_constants
  list_is_short few = few list apart (all_from_members (IsConstant schema member) list (λ value has. (lists.each value).0 has))

module _ (P : PropId → Type 0) (n : ℕ) where
  -- what is so of the first so many, and of the next, is so of one more
  pub one_further : ((p : PropId) → p.index < n → P p) → P (record { index = n }) → (p : PropId) → p.index < n + 1 → P p
  one_further so_far next p within = elim (cases_eq p.index n) [
    | inl here ↦ let same : record { index = n } ≡ p = λ i. record { index = sym here i } in subst P same next
    | inr other ↦ so_far p (omega (arith, within, other))
  ]
