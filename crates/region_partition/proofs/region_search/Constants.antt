-- The constants of a property, as they are told.
use Rattle.std.proofs.Common.{◌≡◌, ◌<◌, ◌≤◌, List, [], length, option_and_then, unwrap_or, Option, Some, None, IsSome, Contains, Decides, refl, sym, ap, subst, ◌∙◌, arith}
use Rattle.std.specs.List.{list_any}
use Rattle.std.proofs.lemmas.Bool.Decides.{Decides-like}
use Rattle.round_trip.specs.Words.{GroupId, PropId, Value, Schema}
use Rattle.round_trip.specs.soundness.mappings.Joined.{prop}
use Rattle.member_groups.specs.declared.groups.MemberGroups.{MemberGroups}
use Rattle.member_groups.specs.MemberGroups.{TellsMemberGroups, constants_in, group_in}
use Rattle.schema_laws.specs.state_demand.Selecting.{same_value}
use Rattle.schema_laws.proofs.state_demand.lists.Lists.{Decides-any, any_of, of_any}
use Rattle.schema_laws.proofs.state_demand.writings.Selecting.{Decides-value}

-- a value is one of some
pub Decides-among : (values : List Value) (value : Value) → Decides (list_any (same_value value) values) (Contains values value)
Decides-among values value = Decides-like (list_any (same_value value) values)
    (λ any. let found = of_any (λ other. value ≡ other) values any in subst (Contains values) (sym found.2) found.1)
    (λ has. any_of (λ other. value ≡ other) values value has refl)
    (Decides-any (same_value value) (λ other. value ≡ other) (Decides-value value) values)

abbrev told_of : MemberGroups → Option GroupId → List Value
told_of groups found = unwrap_or (option_and_then (constants_in groups) found) []

module _ (schema : Schema) (groups : MemberGroups) (tells : TellsMemberGroups schema groups) (p : PropId) where
  -- what is no property has none
  pub none_past : length schema.model.props ≤ p.index → [] ≡ told_of groups (group_in groups (prop p))
  none_past past = by (group_in groups (prop p)) (tells.only (prop p))
    where
      by : (found : Option GroupId) → (IsSome found → p.index < length schema.model.props) → [] ≡ told_of groups found
      by None within = refl
      by (Some group) within = let inside : p.index < length schema.model.props = within refl in absurd (omega (arith, past, inside))

  -- those of its group
  pub group_has : (group : GroupId) → group_in groups (prop p) ≡ Some group → IsSome (constants_in groups group)
  group_has group at = let told = tells.constants (prop p) group at in subst IsSome (sym told.1) refl

  pub told_by : (group : GroupId) (list : List Value) → group_in groups (prop p) ≡ Some group → constants_in groups group ≡ Some list
      → list ≡ told_of groups (group_in groups (prop p))
  told_by group list at listed =
      sym (ap (told_of groups) at ∙ ap (λ (found : Option (List Value)). unwrap_or found []) listed)
