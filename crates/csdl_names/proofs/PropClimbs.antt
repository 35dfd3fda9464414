-- A climb to the property that a type has of a name: what each step leaves to be looked at.
use Rattle.std.proofs.Common.{◌≡◌, ℕ, zero, suc, ◌+◌, ◌<◌, List, Option, Some, None, true, false, refl, sym, ap, ◌∙◌, arith}
use Rattle.std.specs.Option.{is_some, option_and_then, option_or}
use Rattle.csdl_names.specs.declared.csdl_lists.raw.RawModel.{RawModel}
use Rattle.csdl_names.specs.csdl_lists.References.{Names, base_of}
use Rattle.csdl_names.specs.declared.lookups.PropPlace.{PropPlace}
use Rattle.csdl_names.specs.PropPlaces.{own_prop, prop_upto}

-- while steps are left, there is one
pub one_left : (left steps count end : ℕ) → left + steps ≡ count → end ≡ count → steps < end → (m : ℕ) × (left ≡ suc m) × (m + (steps + 1) ≡ count)
one_left zero steps count end all last more = absurd (omega (arith, all, last, more))
one_left (suc m) steps count end all last more = (m, refl, omega (arith, all))

module _ (names : Names) (model : RawModel) (name : List ℕ) (m i : ℕ) where
  -- the type itself declares it
  pub climb_ends : (found : Option PropPlace) → found ≡ own_prop names model i name → is_some found ≡ true → found ≡ prop_upto names model (suc m) i name
  climb_ends None is some = absurd cc
  climb_ends (Some x) is some = ap (λ (own : Option PropPlace). option_or own (option_and_then (λ base. prop_upto names model m base name) (base_of names model i))) is

  -- it doesn't, and has no base
  pub climb_fails : (found : Option PropPlace) → found ≡ own_prop names model i name → is_some found ≡ false → base_of names model i ≡ None → None ≡ prop_upto names model (suc m) i name
  climb_fails (Some x) is some none = absurd cc
  climb_fails None is some none =
      ap (λ (own : Option PropPlace). option_or own (option_and_then (λ base. prop_upto names model m base name) None)) is
      ∙ ap (λ (base : Option ℕ). option_or (own_prop names model i name) (option_and_then (λ j. prop_upto names model m j name) base)) (sym none)

  -- it doesn't, and its base is looked at next
  pub climb_goes : (found : Option PropPlace) (j : ℕ) → found ≡ own_prop names model i name → is_some found ≡ false → base_of names model i ≡ Some j
      → prop_upto names model m j name ≡ prop_upto names model (suc m) i name
  climb_goes (Some x) j is some base = absurd cc
  climb_goes None j is some base =
      ap (λ (own : Option PropPlace). option_or own (prop_upto names model m j name)) is
      ∙ ap (λ (b : Option ℕ). option_or (own_prop names model i name) (option_and_then (λ k. prop_upto names model m k name) b)) (sym base)
