-- What is left of a bound while a list is gone over, and how far a climb goes.
use Rattle.std.proofs.Common.{◌≡◌, ℕ, suc, ◌+◌, ◌<◌, List, take, sum_by, Option, Some, Result, Ok, Err, Bool, false, cond, ap, ◌∙◌, arith}
use Rattle.std.specs.Option.{is_some, option_map_or}
use Rattle.std.specs.Result.{IsErr}
use Rattle.std.proofs.lemmas.List.Sums.{sum_by_push, sum_by-take-le}
use Rattle.emc_base.specs.Lists.{At}
use Rattle.emc_base.proofs.Loops.{take_item}
use Rattle.csdl_names.specs.declared.csdl_lists.raw.RawModel.{RawModel}
use Rattle.csdl_names.specs.csdl_lists.References.{Names, base_of}
use Rattle.csdl_names.specs.Climbs.{Leaves, steps_upto}
use Rattle.csdl_names.specs.PropPlaces.{own_prop}

module _ {X : Type 0} (f : X → ℕ) (items : List X) (i most left : ℕ) (taken : left + sum_by f (take i items) ≡ most) where
  -- with the next item, its part is taken too
  one_more : (item : X) → At items i item → sum_by f (take (i + 1) items) ≡ sum_by f (take i items) + f item
  one_more item here = ap (sum_by f) (take_item items i item here) ∙ sum_by_push f (take i items) item

  -- what it leaves of what was left
  pub takes_more : (item : X) (now : ℕ) → At items i item → now + f item ≡ left → now + sum_by f (take (i + 1) items) ≡ most
  takes_more item now here next = let more = one_more item here in omega (arith, more, next, taken)

  -- or it asks for more than is left
  pub takes_over : (item : X) → At items i item → left < f item → most < sum_by f items
  takes_over item here over = let more = one_more item here in let upto = sum_by-take-le f items (i + 1) in omega (arith, more, over, upto, taken)

-- what is refused asks for more than there is
pub refuses : {E : Type 0} (most steps : ℕ) (result : Result ℕ E) → IsErr result → most < steps → Leaves most steps result
refuses most steps (Ok left) is over = absurd cc
refuses most steps (Err fault) is over = over

module _ (names : Names) (model : RawModel) (name : List ℕ) (m i : ℕ) where
  -- a climb goes on at the base type of a type that doesn't declare the property
  pub goes_to_base : (j : ℕ) → is_some (own_prop names model i name) ≡ false → base_of names model i ≡ Some j → steps_upto names model (suc m) i name ≡ 1 + steps_upto names model m j name
  goes_to_base j not base =
      ap (λ (b : Bool). cond b 1 (option_map_or (λ k. 1 + steps_upto names model m k name) (base_of names model i) 1)) not
      ∙ ap (λ (o : Option ℕ). option_map_or (λ k. 1 + steps_upto names model m k name) o 1) base
