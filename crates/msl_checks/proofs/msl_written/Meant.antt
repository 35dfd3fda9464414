-- What the pairs of a list stand for is what was looked up at their places.
use Rattle.std.proofs.Common.{◌≡◌, ℕ, List, [], ◌∷◌, map, Option, option_map, slice_get, refl, sym, ap, subst, ◌∙◌}
use Rattle.std.specs.List.{cons_option, filter_map}
use Rattle.std.specs.Option.{option_and_then}
use Rattle.std.proofs.lemmas.Option.{slice_get-map}
use Rattle.emc_base.specs.Lists.{At}
use Rattle.layouts.specs.declared.fault.Fault.{Fault}
use Rattle.layouts.specs.Faults.{fault_cmp}
use Rattle.groupings.specs.least_fault.Least.{IsLeast}
use Rattle.groupings.proofs.least_fault.Leasts.{least_same}
use Rattle.layouts.specs.rule_places.Places.{InList}
use Rattle.layouts.proofs.rule_places.Rules.{in_list_at}

-- what is found of images is what is found of the items
pub filter_map-map : {X Y : Type 0} (f : X → Option Y) (xs : List X) → filter_map (λ found. found) (map f xs) ≡ filter_map f xs
filter_map-map f [] = refl
filter_map-map f (x ∷ xs) = ap (cons_option (f x)) (filter_map-map f xs)

module _ {X Y : Type 0} (meant : X → Option Y) (found : List (Option Y)) (items : List X) (are : found ≡ map meant items) where
  -- what was looked up at a place is what the item there stands for
  at_place : (i : ℕ) (item : X) → At items i item → option_and_then (λ y. y) (slice_get found i) ≡ meant item
  at_place i item here = ap (option_and_then (λ y. y)) (ap (λ ys. slice_get ys i) are ∙ (slice_get-map meant items i ∙ ap (option_map meant) here))

  -- the least by what was looked up is the least by what the items stand for
  pub least_by_meant : (member : List ℕ) (Wrong : Option Y → Fault → Type 0) (first : Option Fault)
      → IsLeast fault_cmp (InList member (λ i _ fault. Wrong (option_and_then (λ y. y) (slice_get found i)) fault) items) first
      → IsLeast fault_cmp (InList member (λ i item fault. Wrong (meant item) fault) items) first
  least_by_meant member Wrong first = least_same fault_cmp (InList member ByPlace items) (InList member ByItem items) first
      (in_list_at member ByPlace ByItem items (λ i item here fault. subst (λ (known : Option Y). Wrong known fault) (at_place i item here)))
      (in_list_at member ByItem ByPlace items (λ i item here fault. subst (λ (known : Option Y). Wrong known fault) (sym (at_place i item here))))
    where
      ByPlace : ℕ → X → Fault → Type 0
      ByPlace i item fault = Wrong (option_and_then (λ y. y) (slice_get found i)) fault

      ByItem : ℕ → X → Fault → Type 0
      ByItem i item fault = Wrong (meant item) fault
